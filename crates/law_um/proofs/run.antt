mod Lists
mod Kept
mod Gaps
mod Rising
mod Scripts
mod Taken
