-- How far a session can go on. A host says each part of its catalog once and each row of a reply once, and the serials
-- of asks end, so each frame that it takes or says brings the session nearer to its end.
use Rattle.std.specs.Prelude.{ℕ, ◌+◌, ◌-◌, ◌*◌}
use Rattle.host_exec.specs.declared.stage.Stage.{Stage}
use Rattle.host_exec.specs.declared.stage.Stage.TheVariants.{Greeting, Welcoming, Listening, Answering, Replying, Over}

-- the frames that go back and forth for one ask at most: two for each row, and some more
abbrev pub ask_steps : ℕ
ask_steps = 2000003

-- the asks of a session at most
abbrev pub most_asks : ℕ
most_asks = 4294967296

-- what is left of the reply to an ask that goes on at a row
abbrev pub row_steps : (place : ℕ) → ℕ
row_steps place = 2 * (1000000 - place)

-- at most so many frames are still taken or said, where the catalog has so many bytes
abbrev pub steps_left : (catalog : ℕ) → Stage → ℕ
steps_left catalog Greeting = most_asks * ask_steps + catalog + 1
steps_left catalog (Welcoming at) = most_asks * ask_steps + (catalog - at)
steps_left catalog (Listening next) = (most_asks - next) * ask_steps + 1
steps_left catalog (Answering serial place sent) = (most_asks - 1 - serial) * ask_steps + (row_steps place + 2)
steps_left catalog (Replying serial place sent) = (most_asks - 1 - serial) * ask_steps + (row_steps place + 3)
steps_left catalog Over = 0
