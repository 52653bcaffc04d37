-- What is claimed of counts and clean points: what they are of the visited pairs (`CountLaws`), that they stay the same after changes, which is demand 3
-- (`Changes`), also in terms of the buffers that walks leave (`InBuffers`), and that built strings have the same counts whichever way their points stand
-- (`BuiltChanges`); and what another margin changes (`MarginLaws`).
pub mod CountLaws
pub mod Changes
pub mod InBuffers
pub mod BuiltChanges
pub mod MarginLaws
