pub use Rattle.step_resolver.specs.Asked
pub use Rattle.step_resolver.specs.Trail
pub use Rattle.step_resolver.specs.Order
pub use Rattle.step_resolver.specs.WalkHistory
pub use Rattle.step_resolver.specs.Headline
pub mod TrailSteps
pub mod Retries
