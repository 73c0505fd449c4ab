mod Odd
mod Recorded
mod Fed
mod MemCalls
mod Shapes
mod Images
mod Frames
