mod Listed
mod Tried
