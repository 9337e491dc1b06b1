-- The laws of the face.

-- where the public call allows one answer, one struct is handed over; no function's proof uses it
pub mod OneOutcome
