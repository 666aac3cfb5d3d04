-- The text of a file's events, written into a page part by part.
use Prim.Native.Nat.{ℕ, ◌+◌, ◌*◌, ◌≤◌, ◌<◌}
use native.Mathlib.Omega.{arith}
use mathlib.Core.Path.{◌≡◌, refl, ap, sym, ◌∙◌}
use mathlib.Core.List.{List, [], ◌++◌, append_assoc}
use lib.ListN.{length}
use Rattle.std.proofs.Common.{Ok}
use Rattle.laws.specs.Answers.{number, number_some}
use Rattle.laws.specs.Refusals.{accepted_zero, accepted_not}
use Rattle.laws.specs.declared.Refusal.{Refusal}
use Rattle.events.specs.declared.Event.{Event}
use Rattle.files.specs.File.{events_of}
use Rattle.plain.specs.Book as plain
use Rattle.machine.specs.declared.Core.{Core}
use Rattle.machine.specs.declared.Numbers.{Numbers}
use Rattle.machine.specs.View.{book_of, Held}
use Rattle.report.specs.Lines.{LINE, refusal_line}
use Rattle.report.specs.Pages.{Put, Wrote, put_none, put_length, put_lent, put_text, put_wrote, none_wrote, wrote_lent, wrote_text, lent, back, length_lent}
use Rattle.transcript.specs.declared.Started.{Started}
use Rattle.transcript.specs.declared.Played.{Played}
use Rattle.transcript.specs.Transcript.{input_refusal, events_in, opened, events_text, end_text, transcript}
use Rattle.transcript.specs.Playing.{StartedOn, BLOCK, END, PlayedOn, between}
use Rattle.transcript.specs.Whole.{left, none_left, page_left, all_left, refused}
use Rattle.timed.specs.Play.{Begun, room_for}

-- what holds between two parts
pub record Going (file : List ℕ) (b : plain.Book) (entry page : List ℕ) (played : Core) (z : Numbers) (i bytes : ℕ) : Type 0 where
  pub place : i ≤ length (events_of file)
  pub held : Held played z
  pub begun : Begun (events_of file) b entry page (book_of played z) i bytes
  pub most : bytes ≤ BLOCK * i
  pub long : length page ≡ length entry

pub none_yet : (file : List ℕ) (page : List ℕ) (core : Core) (a : Numbers) → Held core a → Going file (book_of core a) page page core a 0 0
none_yet file page core a held =
    record { place = omega arith; held = held; begun = record { text = []; put = put_none page; rest = refl }; most = omega arith; long = refl }

module _ (file : List ℕ) (b : plain.Book) (entry page : List ℕ) (played : Core) (z : Numbers) (i bytes : ℕ) (room : BLOCK * length (events_of file) ≤ length entry) (h : Going file b entry page played z i bytes) where
  pub within_page : bytes ≤ length page
  within_page = omega (arith, h.most, h.place, h.long, room)

  pub part_room : i < length (events_of file) → BLOCK ≤ length (lent bytes page)
  part_room inside = omega (arith, length_lent bytes page, h.most, h.long, room, inside)

  pub next_part : (part : List ℕ) (y : Numbers) (r : Played) → PlayedOn file played z i (lent bytes page) part y r → Going file b entry (back bytes page part) r.core y r.next (bytes + r.used)
  next_part part y r p =
      let es = events_of file in
      let more = events_text (book_of played z) (i + 1) (between file i r.next) in
      let before = h.begun.text in
      let put = put_lent before entry page bytes h.begun.put more part r.used p.text in
      record {
        place = omega (arith, p.within, h.place);
        held = p.played.held;
        begun = record {
          text = before ++ more;
          put = put;
          rest =
              append_assoc before more (left es (book_of r.core y) r.next)
              ∙ ap (λ (l : List ℕ). before ++ l) (page_left file h.place p)
              ∙ h.begun.rest;
        };
        most = omega (arith, h.most, p.most, p.reached);
        long = put_length (before ++ more) entry (back bytes page part) (bytes + r.used) put (omega (arith, p.fits, length_lent bytes page, within_page, h.long));
      }

  -- all events are written
  pub all_begun : length (events_of file) ≤ i → Begun (events_of file) b entry page (book_of played z) (length (events_of file)) bytes
  all_begun end =
      let e : i ≡ length (events_of file) = omega (arith, end, h.place) in
      rw e at h.begun

-- with the lines of positions and accounts, it is all that is printed
pub ended : (es : List Event) (b : plain.Book) (entry page : List ℕ) (after : plain.Book) (bytes : ℕ) (part : List ℕ) (m : ℕ) → bytes + END ≤ length page → Begun es b entry page after (length es) bytes → Wrote END (end_text after) (lent bytes page) part m → Put (left es b 0) entry (back bytes page part) (bytes + m)
ended es b entry page after bytes part m room g w =
    put_text (g.text ++ end_text after) (left es b 0) entry (back bytes page part) (bytes + m)
    (ap (λ (l : List ℕ). g.text ++ l) (none_left es after (length es) (omega arith)) ∙ g.rest)
    (wrote_lent g.text entry page bytes g.put END (end_text after) part m room w)

-- a refused input
pub refused_play : (input : List ℕ) (r : Refusal) → number r ≡ input_refusal input → (entry exit : List ℕ) (n : ℕ) → Wrote LINE (refusal_line (number r)) entry exit n → Wrote (room_for input) (transcript input) entry exit n
unfolding room_for
refused_play input r e entry exit n w =
    rw (accepted_not (input_refusal input) (BLOCK * length (events_in input) + END) LINE (λ z. number_some r (e ∙ z))) (wrote_text LINE _ _ entry exit n (refused input r e) w)

module _ (input : List ℕ) (s : Started) (on : StartedOn input (Ok s)) where
  room : room_for input ≡ BLOCK * length (events_in input) + END
  unfolding room_for
  room = accepted_zero (input_refusal input) (BLOCK * length (events_in input) + END) LINE (sym on.number)

  -- a page that is too short
  pub no_room : (entry : List ℕ) → length entry < BLOCK * length (events_in input) + END → Wrote (room_for input) (transcript input) entry entry 0
  no_room entry short = rw room (none_wrote (BLOCK * length (events_in input) + END) (transcript input) entry short)

  -- and one that is not
  pub written_play : (entry exit : List ℕ) (n : ℕ) → BLOCK * length (events_in input) + END ≤ length entry → n ≤ BLOCK * length (events_in input) + END → Put (left (events_in input) (opened input) 0) entry exit n → Wrote (room_for input) (transcript input) entry exit n
  written_play entry exit n long most put =
      let all = put_text _ _ entry exit n (all_left input s on) put in
      rw room (put_wrote (BLOCK * length (events_in input) + END) (transcript input) entry exit n long (omega (arith, all.bytes, most)) all)
