-- What holds of a register that is accepted.
use Rattle.std.specs.Prelude.{ℕ, ◌+◌, ◌-◌, ◌*◌, ◌≤◌, ◌<◌, ◌≡◌, refl, List, Bool, true, false, not, length, get_or, drop, eqb}
use Rattle.std.proofs.Math.Nat.{zero-add}
use Rattle.std.proofs.Common.{arith, ap, sym, ◌∙◌, eqb-true}
use Rattle.std.proofs.lemmas.Bool.{false≢true, not-false}
use Rattle.std.proofs.Math.Seq.{get_or-take, get_or-drop}
use Rattle.laws.specs.Limits.{SECURITIES}
use Rattle.laws.specs.Parts.{length_padded, get_or_padded}
use Rattle.laws.specs.Alls.{all_each, all_any}
use Rattle.laws.specs.Lists.{each, range}
use Rattle.laws.specs.Refusals.{first, numbered, none_applies, each_passes, accepted, accepted_not, choose_most, first_most}
use Rattle.laws.specs.Asked.{and_left, and_right, within, within_low, within_high}
use Rattle.laws.specs.Places.{same, same_refl, some_range}
use Rattle.register.specs.Isin.{isin}
use Rattle.register.specs.Register.{count, class_at, isin_at, right_size, is_class, stands_earlier, entry_reasons, entries_refusal, refusal, class_bytes, isin_bytes, register_of, empty_register, register_read, Sized}
use Rattle.register.specs.declared.Register.{Register}

pub sized : (bytes : List ℕ) → right_size bytes ≡ true → Sized bytes (count bytes)
unfolding right_size
sized bytes e =
    let n = count bytes in
    let w : within 1 SECURITIES n ≡ true = and_left (within 1 SECURITIES n) (eqb (length bytes) (2 + 13 * n)) e in
    record {
      counted = refl;
      low = within_low 1 SECURITIES n w;
      high = within_high 1 SECURITIES n w;
      long = eqb-true (length bytes) (2 + 13 * n) (and_right (within 1 SECURITIES n) (eqb (length bytes) (2 + 13 * n)) e);
    }

-- an entry that is not refused: its class is 1 to 3, its ISIN passes the check and stands nowhere earlier
pub record Entry (bytes : List ℕ) (i : ℕ) : Type 0 where
  pub class_low : 1 ≤ class_at bytes i
  pub class_high : class_at bytes i ≤ 3
  pub checked : isin (isin_at bytes i) ≡ true
  pub new : (j : ℕ) → j < i → isin_at bytes j ≡ isin_at bytes i → ⊥

pub entry_numbered : (bytes : List ℕ) (i : ℕ) → numbered (entry_reasons bytes i) ≡ true
unfolding entry_reasons
entry_numbered bytes i = refl

new_isin : (bytes : List ℕ) (i : ℕ) → stands_earlier bytes i ≡ false → (j : ℕ) → j < i → isin_at bytes j ≡ isin_at bytes i → ⊥
unfolding stands_earlier
new_isin bytes i e j h k =
    let at : same (isin_at bytes j) (isin_at bytes i) ≡ false = rw zero-add at (some_range (λ (m : ℕ). same (isin_at bytes m) (isin_at bytes i)) 0 i j e h) in
    let is : same (isin_at bytes j) (isin_at bytes i) ≡ true = ap (λ (l : List ℕ). same l (isin_at bytes i)) k ∙ same_refl (isin_at bytes i) in
    false≢true (sym at ∙ is)

pub entry : (bytes : List ℕ) (i : ℕ) → first (entry_reasons bytes i) ≡ 0 → Entry bytes i
unfolding entry_reasons
entry bytes i e =
    let f = none_applies (entry_reasons bytes i) (entry_numbered bytes i) e in
    let class : is_class (class_at bytes i) ≡ true = not-false _ f.0 in
    record {
      class_low = within_low 1 3 _ class;
      class_high = within_high 1 3 _ class;
      checked = not-false _ f.1.0;
      new = new_isin bytes i f.1.1.0;
    }

-- where the size is right the entries alone decide
pub refusal_sized : (bytes : List ℕ) → right_size bytes ≡ true → refusal bytes ≡ entries_refusal bytes
unfolding refusal entries_refusal
refusal_sized bytes e = simp e

pub refusal_unsized : (bytes : List ℕ) → right_size bytes ≡ false → refusal bytes ≡ 1
unfolding refusal
refusal_unsized bytes e = simp e

module _ (bytes : List ℕ) (taken : refusal bytes ≡ 0) where
  right_size_lem : right_size bytes ≡ true
  right_size_lem = go (right_size bytes) refl
    where
      go : (b : Bool) → right_size bytes ≡ b → right_size bytes ≡ true
      go true e = e
      go false e = absurd (omega (arith, sym (refusal_unsized bytes e) ∙ taken))

  pub accepted_size : Sized bytes (count bytes)
  accepted_size = sized bytes right_size_lem

  pub accepted_entry : (i : ℕ) → i < count bytes → Entry bytes i
  unfolding entries_refusal
  accepted_entry i h =
      entry bytes i
      (rw zero-add at (each_passes (entry_reasons bytes) (entry_numbered bytes) 0 (count bytes) i (sym (refusal_sized bytes right_size_lem) ∙ taken) h))

module _ (bytes : List ℕ) (s : Sized bytes (count bytes)) where
  pub class_of_bytes : (i : ℕ) → i < count bytes → get_or (register_of bytes).classes i 0 ≡ class_at bytes i
  unfolding register_of class_bytes class_at
  class_of_bytes i h =
      get_or_padded 0 SECURITIES (class_bytes bytes) i (omega (arith, s.high))
      ∙ get_or-take (count bytes) (drop 2 bytes) i 0 h
      ∙ get_or-drop 2 bytes i 0

-- a register by value: its count and arrays are of the right size, and each class of its securities is 1, 2 or 3
pub record Registered (r : Register) : Type 0 where
  pub low : 1 ≤ r.count
  pub high : r.count ≤ SECURITIES
  pub classes_long : length r.classes ≡ SECURITIES
  pub isins_long : length r.isins ≡ 384
  pub class_low : (i : ℕ) → i < r.count → 1 ≤ get_or r.classes i 0
  pub class_high : (i : ℕ) → i < r.count → get_or r.classes i 0 ≤ 3

pub registered : (bytes : List ℕ) → refusal bytes ≡ 0 → Registered (register_of bytes)
unfolding register_of
registered bytes taken =
    let s = accepted_size bytes taken in
    record {
      low = s.low;
      high = s.high;
      classes_long = length_padded 0 SECURITIES (class_bytes bytes);
      isins_long = length_padded 0 384 (isin_bytes bytes);
      class_low = λ i h. rw (class_of_bytes bytes s i h) (accepted_entry bytes taken i h).class_low;
      class_high = λ i h. rw (class_of_bytes bytes s i h) (accepted_entry bytes taken i h).class_high;
    }

-- what reading answers, by its number
pub read_accepted : (bytes : List ℕ) → refusal bytes ≡ 0 → (register_read bytes).register ≡ register_of bytes
unfolding register_read
read_accepted bytes taken = ap (λ (n : ℕ). accepted n (register_of bytes) empty_register) taken

pub read_refused : (bytes : List ℕ) → (refusal bytes ≡ 0 → ⊥) → (register_read bytes).register ≡ empty_register
unfolding register_read
read_refused bytes refused = accepted_not (refusal bytes) (register_of bytes) empty_register refused

pub read_registered : (bytes : List ℕ) → (register_read bytes).number ≡ 0 → Registered (register_read bytes).register
unfolding register_read
read_registered bytes taken = rw (read_accepted bytes taken) (registered bytes taken)

-- a register is refused with at most 4
pub read_most : (bytes : List ℕ) → (register_read bytes).number ≤ 4
unfolding register_read refusal entries_refusal entry_reasons
read_most bytes =
    let entries = range 0 (count bytes) in
    choose_most (not (right_size bytes)) 4 1 _ (omega arith)
    (first_most 4 (each (entry_reasons bytes) entries)
    (all_each (λ r. r.number ≤ 4) (entry_reasons bytes) (λ i. Unit {0}) entries (λ i u. (omega arith, (omega arith, (omega arith, tt)))) (all_any (λ i. Unit {0}) entries (λ i. tt))))
