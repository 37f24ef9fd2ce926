-- Laws of going through a file of sets.
mod KeptLaws
