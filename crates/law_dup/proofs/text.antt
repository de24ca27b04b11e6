mod LineLaws
mod Wrong
