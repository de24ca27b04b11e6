mod Steps
mod Endings
mod Comings
mod Polls
mod Makings
mod Placings
mod AnyCodec
