pub mod CallLaws
pub mod CountLaws
pub mod CrashClauses
pub mod KindLaws
