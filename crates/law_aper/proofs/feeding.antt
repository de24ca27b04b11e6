mod Stages
mod Cutting
