-- The latest price of a security at the end of a file, as one number. Tests ask for it, since the player does not print it.
use Rattle.plain.specs.declared.Latest.{Latest}
use Rattle.std.specs.Prelude.{ℕ, ◌+◌, ◌*◌, List, None, Option, Some, Result, Ok, Err}
use Rattle.laws.specs.Refusals.{accepted}
use Rattle.files.specs.File.{events_of}
use Rattle.plain.specs.Book.{opening_read, new}
use Rattle.plain.specs.Histories.{run, calls_of}
use Rattle.laws.specs.Answers.{number}
use Rattle.laws.specs.declared.Refusal.{Refusal}
use Rattle.reading.specs.Reading.{price_answer}
use Rattle.replay.specs.Replay.{replay_refusal}

-- 0 where no price was given, else the price times 65,536 and its day: a price is at least 1, so that no refusal number is one of these
abbrev pub price_number : Option Latest → ℕ
price_number None = 0
price_number (Some latest) = latest.price * 65536 + latest.day.0

abbrev pub answer_number : Result (Option Latest) Refusal → ℕ
answer_number (Ok latest) = price_number latest
answer_number (Err refusal) = number refusal

-- refusals 1 to 7 of the register and the file, else the answer of the book after the file's events
unfoldable pub latest_for : List ℕ → List ℕ → ℕ → ℕ
latest_for register file security =
    let answer = price_answer (run (new (opening_read register)) (calls_of (events_of file))) security in
    accepted (replay_refusal register file) (answer_number answer) (replay_refusal register file)
