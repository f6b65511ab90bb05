mod Spelled
mod Standing
