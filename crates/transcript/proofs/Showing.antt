-- The lines of one event, and of some events one after the other.
use Prim.Native.Nat.{ℕ, ◌+◌, ◌-◌, ◌*◌, ◌≤◌, ◌<◌, min, max}
use native.Mathlib.Omega.{arith}
use mathlib.Core.Path.{◌≡◌, ap, sym, ◌∙◌}
use mathlib.Core.List.{List, [], ◌∷◌, ◌++◌}
use lib.Dec.{ltb}
use borrow.Author.Tests.{ltb-true, ltb-false}
use lib.ListN.{length, get_or, take, drop}
use Rattle.laws.specs.Asked.{Said, passed, failed, ask}
use Rattle.events.specs.declared.Event.{Event}
use Rattle.events.specs.declared.Event.TheVariants as event
use Rattle.files.specs.File.{events_of}
use Rattle.laws.specs.Answers.{Outcome, number_in, quantity_of}
use Rattle.plain.specs.Calls.{call}
use Rattle.plain.specs.Refusals.{refusal}
use Rattle.plain.specs.Book as plain
use Rattle.plain.specs.Histories.{next, pieces, quantity, run, calls_of}
use Rattle.pieces.specs.Sheet.{pieces_of, sheet_with}
use Rattle.machine.specs.declared.Core.{Core}
use Rattle.machine.specs.declared.Numbers.{Numbers}
use Rattle.machine.specs.View.{book_of, Held}
use Rattle.calls.specs.Stepping.{Stepped}
use Rattle.machine.specs.Answers.{answered_number, answered_quantity}
use Rattle.report.specs.Lines.{LINE, event_lines}
use Rattle.report.specs.Pages.{Put, Wrote, wrote_put, put_lent, put_text, put_none, put_length, lent, back, length_lent}
use Rattle.transcript.specs.Transcript.{event_text, events_text}
use Rattle.replay.specs.Replay.{PlayedUpTo, sheet_after}
use Rattle.replay.proofs.Playing as playing
use Rattle.replay.proofs.Playing.{none_played, one_played, then_played}
use Rattle.transcript.specs.Texts.{one_more, text_more}
use Rattle.transcript.specs.Playing.{BLOCK, PlayedOn, between}

-- one event on a core and the lent numbers: those after it, and its text in the page's first bytes
pub record Shown (b : Core) (a : Numbers) (e : Event) (number : ℕ) (entry exit : List ℕ) (after : Core) (z : Numbers) (used : ℕ) : Type 0 where
  pub text : Put (event_text (book_of b a) number e) entry exit used
  pub fits : used ≤ BLOCK
  pub played : PlayedUpTo b a (e ∷ []) after z

-- its number, quantity and pieces are written as it answered them, the pieces from the sheet as it left it
pub shown : (b : Core) (a : Numbers) (e : Event) (number : ℕ) (entry exit : List ℕ) (after : Core) (z : Numbers) (sheet left : List ℕ) (o : Outcome) (n used : ℕ) → BLOCK ≤ length entry → Stepped b a e sheet after z left o n
    → Wrote (LINE * (1 + min n 1024)) (event_lines number (number_in o) (quantity_of o) (take n (pieces_of left))) entry exit used
    → Shown b a e number entry exit after z used
unfolding event_text
shown b a e number entry exit after z sheet left o n used room d w =
    let s = d.called.returned in
    let text : event_lines number (number_in o) (quantity_of o) (take n (pieces_of left)) ≡ event_text (book_of b a) number e = rw (answered_number (book_of b a) (call e 1024) o s.outcome, answered_quantity (book_of b a) (call e 1024) o s.outcome, s.pieces) in
    record {
      text = put_text _ _ entry exit used text (wrote_put _ _ entry exit used (omega (arith, room)) w);
      fits = omega (arith, w.most);
      played = one_played b a e sheet after z left o n d;
    }

-- what holds after the events from one place up to another
pub record Reached (file : List ℕ) (b : Core) (a : Numbers) (from to : ℕ) (entry page : List ℕ) (played : Core) (z : Numbers) (used : ℕ) : Type 0 where
  pub low : from ≤ to
  pub high : to ≤ max from (length (events_of file))
  pub text : Put (events_text (book_of b a) (from + 1) (between file from to)) entry page used
  pub fits : used ≤ length entry
  pub most : used ≤ BLOCK * (to - from)
  pub played' : PlayedUpTo b a (between file from to) played z

pub none_reached : (file : List ℕ) (b : Core) (a : Numbers) (from : ℕ) (page : List ℕ) → Held b a → Reached file b a from from page page b a 0
unfolding events_text run
none_reached file b a from page v =
    let none : from - from ≡ 0 = omega arith in
    record {
      low = omega arith;
      high = omega arith;
      text = rw none (put_none page);
      fits = omega arith;
      most = omega arith;
      played' = rw none (none_played b a v);
    }

pub one_reached : (file : List ℕ) (b : Core) (a : Numbers) (from to : ℕ) (entry page part : List ℕ) (played after : Core) (z y : Numbers) (e : Event) (number used more : ℕ)
    → Reached file b a from to entry page played z used → to < length (events_of file) → e ≡ get_or (events_of file) to event.Close → number ≡ to + 1
    → used + BLOCK ≤ length entry → Shown played z e number (lent used page) part after y more
    → Reached file b a from (to + 1) entry (back used page part) after y (used + more)
one_reached file b a from to entry page part played after z y e number used more h inside is numbered room s =
    let es = events_of file in
    let same : event_text (book_of played z) number e ≡ event_text (run (book_of b a) (calls_of (between file from to))) (to + 1) e = rw (h.played'.book, numbered) in
    record {
      low = omega (arith, h.low);
      high = omega arith;
      text =
          put_text _ _ entry (back used page part) (used + more)
          (ap (λ (t : List ℕ). events_text (book_of b a) (from + 1) (between file from to) ++ t) same ∙ sym (text_more es from to event.Close e h.low inside is (book_of b a)))
          (put_lent _ entry page used h.text _ part more s.text);
      fits = omega (arith, s.fits);
      most = omega (arith, h.low, h.most, s.fits);
      played' = rw (one_more es from to event.Close e h.low inside is) (then_played b a (between file from to) (e ∷ []) played after z y h.played' s.played);
    }

-- the sheet as the calls of no event, and of one event more, leave it
pub none_filled : (file : List ℕ) (b : plain.Book) (from : ℕ) (sheet : List ℕ) → sheet ≡ sheet_after b (calls_of (between file from from)) sheet
none_filled file b from sheet = let none : from - from ≡ 0 = omega arith in rw none (playing.none_filled b sheet)

pub more_filled : (file : List ℕ) (b w : plain.Book) (from to : ℕ) (e : Event) (entry sheet left : List ℕ) → from ≤ to → to < length (events_of file) → e ≡ get_or (events_of file) to event.Close
    → w ≡ run b (calls_of (between file from to)) → sheet ≡ sheet_after b (calls_of (between file from to)) entry → left ≡ sheet_with (pieces w (call e 1024)) sheet
    → left ≡ sheet_after b (calls_of (between file from (to + 1))) entry
more_filled file b w from to e entry sheet left low inside is book before one =
    rw (one_more (events_of file) from to event.Close e low inside is) (playing.more_filled b w (between file from to) e entry sheet left book before one)

-- the part of the page that is lent has room for one more event
pub room_left : (file : List ℕ) (b : Core) (a : Numbers) (from to : ℕ) (entry page : List ℕ) (played : Core) (z : Numbers) (used : ℕ) → Reached file b a from to entry page played z used
    → used + BLOCK ≤ length entry → BLOCK ≤ length (lent used page)
room_left file b a from to entry page played z used h room =
    omega (arith, length_lent used page, put_length _ entry page used h.text h.fits)

-- the page keeps its length
pub same_length : (file : List ℕ) (b : Core) (a : Numbers) (from to : ℕ) (entry page : List ℕ) (played : Core) (z : Numbers) (used : ℕ) → Reached file b a from to entry page played z used → length page ≡ length entry
same_length file b a from to entry page played z used h = put_length _ entry page used h.text h.fits

-- what is answered in the end
pub played_on : (file : List ℕ) (b : Core) (a : Numbers) (from to : ℕ) (entry page : List ℕ) (played : Core) (z : Numbers) (used : ℕ) → Reached file b a from to entry page played z used
    → (from < length (events_of file) → BLOCK ≤ length entry → from < to) → PlayedOn file b a from entry page z (record { core = played; next = to; used = used })
played_on file b a from to entry page played z used h more =
    record { reached = h.low; within = h.high; text = h.text; fits = h.fits; most = h.most; played = h.played'; further = more }

-- a page with room for an event has taken one, where it has no room for another
pub some_taken : (file : List ℕ) (b : Core) (a : Numbers) (from to : ℕ) (entry page : List ℕ) (played : Core) (z : Numbers) (used : ℕ) → Reached file b a from to entry page played z used
    → length entry < used + BLOCK → BLOCK ≤ length entry → from < to
unfolding events_text
some_taken file b a from to entry page played z used h full room = go (ask (ltb from to))
  where
    go : Said (ltb from to) → from < to
    go (passed p) = ltb-true from to p
    go (failed p) =
        let none : to - from ≡ 0 = omega (arith, ltb-false from to p) in
        absurd (omega (arith, h.text.bytes, ap (λ (k : ℕ). length (events_text (book_of b a) (from + 1) (take k (drop from (events_of file))))) none))
