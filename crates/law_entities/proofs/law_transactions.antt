mod CalleeLaws
mod CallerLaws
