pub mod PackingArms
pub mod PublishedArms
