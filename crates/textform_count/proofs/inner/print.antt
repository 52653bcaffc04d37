-- The law of printing: the counts, part by part.
mod Printed
