pub mod CallsThere
pub mod CreationCrash
pub mod CreationImages
pub mod FirstGroup
pub mod GroupCrash
pub mod GroupImages
pub mod LayoutLaws
pub mod StandingLaws
