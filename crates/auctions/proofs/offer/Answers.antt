-- `auctions::offer` meets its contract.
use Prim.Native.Nat.{◌<◌}
use native.Mathlib.Omega.{arith}
use mathlib.Core.Path.{◌≡◌, sym}
use Rattle.laws.specs.Asked.{within_low, within_high, Within}
use Rattle.laws.specs.Refusals.{first}
use Rattle.plain.specs.Refusals.{offer_reasons}
use Rattle.kept.proofs.Auctions.{offer_held, offer_room}
use Rattle.machine.specs.declared.Numbers.{Numbers}
use Rattle.machine.specs.View.{on_rows, on_words, kept_of}
use Rattle.auctions.proofs.Auctioning.{offer_turned, security_within, offer_refused, offer_taken}
use borrow.Author.Rules.{rules}
use Rattle.auctions.proofs.offer.Goals as goal
use Rattle.auctions.proofs.offer.Goals.{Start, In_default, After-row_at-short, In_default-auction_refusal}

abbrev start : In_default → Start
start c = c.before.before

abbrev entry : Start → Numbers
entry s = on_words (on_rows s.requires.0 s.args.rows.now) s.args.words.now

abbrev looked : After-row_at-short → In_default
looked r = r.before.before

first_passed : (c : In_default) → first (offer_reasons (start c).args.core.positions (start c).args.core.auction.position (start c).args.o) ≡ 0
first_passed c = sym c.in_default.ensures

inside : (c : In_default) → Within 1 (start c).args.core.positions (start c).args.o.position
inside c =
    let s = start c in
    let w = offer_held (kept_of s.args.core (entry s)) s.args.o s.requires.1.valid (first_passed c) in
    record { above = within_low _ _ _ w; below = within_high _ _ _ w }

room : (c : In_default-auction_refusal) → (start (looked c.before.before.before.before)).args.core.auction.count < 16
room c = offer_room _ _ _ _ (sym c.in_default-auction_refusal.ensures)

pub returns-in-Err : goal.returns-in-Err
returns-in-Err c =
    λ others h. rw c.refused.ensures (offer_turned _ (on_words (on_rows others _) _) h _ _ c.in-Err.ensures)

pub overflow_sub-place : goal.overflow_sub-place
overflow_sub-place c = (inside c.before).above

pub row_at-short-requires : goal.row_at-short-requires
row_at-short-requires c =
    omega (arith, (inside c.before).above, (inside c.before).below, (start c.before).requires.1.valid.fits.positions.held)

pub word_of-word-requires : goal.word_of-word-requires
word_of-word-requires c =
    let s = start (looked c) in
    (s.requires.1.lent.follows.failing.securities, security_within s.args.core (entry s) s.requires.1 s.args.o (first_passed (looked c)) _ c.row_at-short.ensures)

pub returns-in-Err-auction_refusal : goal.returns-in-Err-auction_refusal
returns-in-Err-auction_refusal c =
    λ others h.
    rw c.refused-in-Err-auction_refusal.ensures
    (offer_refused _ (on_words (on_rows others _) _) h _ (first_passed (looked c.before.before.before.before.before)) _ c.row_at-short.ensures _ c.word_of-word.ensures _ c.is_failing-fails.ensures _ c.in-Err-auction_refusal.ensures)

pub offset_bounds-entered-n : goal.offset_bounds-entered-n
offset_bounds-entered-n c = search (rules, room c.before)

pub bounds-entered-n : goal.bounds-entered-n
bounds-entered-n c = search (rules, room c.before)

pub overflow_add-entered : goal.overflow_add-entered
overflow_add-entered c = search (rules, room c.before)

pub returns : goal.returns
returns c =
    λ others h.
    rw c.done.ensures
    (offer_taken _ (on_words (on_rows others _) _) h _ (first_passed (looked c.before.before.before.before.before.before)) _ c.row_at-short.ensures _ c.word_of-word.ensures _ c.is_failing-fails.ensures c.in_default-auction_refusal.ensures)
