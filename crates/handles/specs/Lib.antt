pub use Rattle.path_text.specs.Name
pub mod Objects
