-- What the pair call answers. `Plane` serves inner contracts alone.
pub mod Crossing
pub mod Plane
