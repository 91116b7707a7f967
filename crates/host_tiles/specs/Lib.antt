-- What a host's bytes of tiles stand for. `TileBytes` is what a reader must believe; the rest are laws.
pub mod TileBytes
pub mod TileByteLaws
