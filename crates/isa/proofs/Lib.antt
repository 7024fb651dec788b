mod Equal
mod Sound
mod Complete
mod Law
