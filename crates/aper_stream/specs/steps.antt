pub mod Steps
pub use Rattle.aper_stream.specs.resuming as aper_resuming
