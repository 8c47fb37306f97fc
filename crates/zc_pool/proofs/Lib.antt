pub mod EventLaws
pub mod FoundPool
pub mod OpeningLaws
pub mod RunningLaws
pub mod StartLaws
pub mod SurvivesLaws
