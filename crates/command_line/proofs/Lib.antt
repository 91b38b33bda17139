mod Places
mod OneJob
mod Spelled
mod FitJobs
mod Walked
mod Inside
