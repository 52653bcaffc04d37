-- The laws of lines: what stands in the list once every part is written.
mod Lines
