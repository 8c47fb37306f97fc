pub mod MapLaws
pub mod SoundLaws
pub mod StateLaws
