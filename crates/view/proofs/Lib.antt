mod Titles
mod LinesOn
mod Chosen
