mod InOrder
mod Rows
mod Strips
mod TwinRule
mod TimeRules
mod Whole
