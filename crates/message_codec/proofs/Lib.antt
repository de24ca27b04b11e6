mod Read
mod Spelled
mod Results
