pub use Rattle.path_text.specs.Errno
pub use Rattle.path_text.specs.Name
pub use Rattle.path_text.specs.Print
pub use Rattle.path_text.specs.Reading
pub use Rattle.path_text.specs.Text
pub mod Plan
pub mod View
pub mod Same
