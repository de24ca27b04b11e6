mod Units
mod Frames
mod Runs
