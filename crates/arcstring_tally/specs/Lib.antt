-- The definitions of the pairs that legs have, their counts and what they keep. `Tally` and `Keep` serve inner contracts
-- alone.
pub mod Pairs
pub mod Tally
pub mod Keep
