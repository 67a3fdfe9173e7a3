mod Grounds
mod Linking
mod Marking
mod Rising
