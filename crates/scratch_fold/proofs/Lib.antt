mod Rising
mod Volumes
