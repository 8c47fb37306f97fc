pub mod BodyLaws
pub mod RootLaws
mod SlotLaws
mod Written
