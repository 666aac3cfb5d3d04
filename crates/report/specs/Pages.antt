-- Texts that are put into the first bytes of a page, one after the other. The bytes after them are kept.
use Rattle.std.specs.Prelude.{ℕ, suc, ◌+◌, ◌-◌, ◌≤◌, ◌<◌, ◌≡◌, refl, List, [], ◌∷◌, ◌++◌, Bool, true, false, cond, length, take, drop, set, ltb}
use Rattle.std.proofs.Common.{arith, ap, ap₂, sym, ◌∙◌, subst, append_assoc, append-nil, length-append, length-drop, take-append-drop, drop_of_length-le, take_at, drop_at, drop-drop, take_all, length-take-le, lt-ltb, le-ltb}
use Rattle.std.proofs.lemmas.List.{set_split}
use Rattle.std.proofs.lemmas.List.Edits.{sets}
use borrow.Rule.Slice.PartMut.{same_len_mid}
use Rattle.laws.specs.Parts.{sets_front}

-- A text stands in the first bytes of a page, whose later bytes are as they were; r is how many bytes the text has.
pub record Put (text entry exit : List ℕ) (r : ℕ) : Type 0 where
  pub bytes : r ≡ length text
  pub page : exit ≡ text ++ drop (length text) entry

-- what of a text is put into a page: nothing, if the page has fewer than `least` bytes
abbrev pub fitting : ℕ → List ℕ → List ℕ → List ℕ
fitting least text page = cond (ltb (length page) least) [] text

-- What a call that writes a text leaves of a page and answers. A page of fewer than `least` bytes is left as it is, and 0 is answered.
pub record Wrote (least : ℕ) (text entry exit : List ℕ) (r : ℕ) : Type 0 where
  pub bytes : r ≡ length (fitting least text entry)
  pub page : exit ≡ fitting least text entry ++ drop (length (fitting least text entry)) entry
  -- it follows from the text's length, and spares a caller the proof of that
  pub most : r ≤ least

pub wrote_put : (least : ℕ) (text entry exit : List ℕ) (r : ℕ) → least ≤ length entry → Wrote least text entry exit r → Put text entry exit r
wrote_put least text entry exit r h w =
    let e : ltb (length entry) least ≡ false = le-ltb (length entry) least h in
    record { bytes = rw e at w.bytes; page = rw e at w.page }

pub put_wrote : (least : ℕ) (text entry exit : List ℕ) (r : ℕ) → least ≤ length entry → length text ≤ least → Put text entry exit r → Wrote least text entry exit r
put_wrote least text entry exit r h l w =
    let e : ltb (length entry) least ≡ false = le-ltb (length entry) least h in
    record { bytes = rw e w.bytes; page = rw e w.page; most = omega (arith, w.bytes) }

pub none_wrote : (least : ℕ) (text entry : List ℕ) → length entry < least → Wrote least text entry entry 0
none_wrote least text entry h =
    let e : ltb (length entry) least ≡ true = lt-ltb (length entry) least h in
    record { bytes = rw e; page = rw e; most = omega arith }

-- an empty text leaves any page as it is
nothing : (b : Bool) → ◌≡◌ {A = List ℕ} (cond b [] []) []
nothing true = refl
nothing false = refl

pub empty_wrote : (least : ℕ) (entry : List ℕ) → Wrote least [] entry entry 0
empty_wrote least entry =
    let e : fitting least [] entry ≡ [] = nothing (ltb (length entry) least) in
    record { bytes = rw e; page = rw e; most = omega arith }

-- the part of a page that is lent from a place on, and the page when the part is back
abbrev pub lent : ℕ → List ℕ → List ℕ
lent n page = take (length page - n) (drop n page)

abbrev pub back : ℕ → List ℕ → List ℕ → List ℕ
back n page part = take n page ++ (part ++ drop (length page - n) (drop n page))

pub length_lent : (n : ℕ) (page : List ℕ) → length (lent n page) ≡ length page - n
length_lent n page = length-take-le (length page - n) (drop n page) (omega (arith, length-drop n page))

pub back_length : (n : ℕ) (page part : List ℕ) → length part ≡ length (lent n page) → length (back n page part) ≡ length page
back_length n page part e = same_len_mid n (length page - n) page part e

-- ---- one text after the other

pub put_none : (page : List ℕ) → Put [] page page 0
put_none page = record { bytes = refl; page = refl }

module _ (text entry page : List ℕ) (n : ℕ) (w : Put text entry page n) where
  -- a page keeps its length
  pub put_length : n ≤ length entry → length page ≡ length entry
  put_length h =
      ap length w.page ∙ length-append text (drop (length text) entry) ∙ omega (arith, w.bytes, length-drop (length text) entry)

  -- the text can be read from the page
  pub put_front : take n page ≡ text
  put_front = ap (take n) w.page ∙ take_at text (drop (length text) entry) n (sym w.bytes)

  -- what stands after the text is what stood there before
  pub put_after : drop n page ≡ drop n entry
  put_after = ap (drop n) w.page ∙ drop_at text (drop (length text) entry) n (sym w.bytes) ∙ ap (λ (k : ℕ). drop k entry) (sym w.bytes)

  -- more text, written into the part of the page that begins where the text ends
  pub put_more : (text₂ part : List ℕ) (m : ℕ) → Put text₂ (drop n page) part m → Put (text ++ text₂) entry (take n page ++ part) (n + m)
  put_more text₂ part m v =
      let long : length (text ++ text₂) ≡ n + length text₂ = length-append text text₂ ∙ ap (λ (k : ℕ). k + length text₂) (sym w.bytes) in
      record {
        bytes = omega (arith, v.bytes);
        page =
            ap₂ (λ (a b : List ℕ). a ++ b) put_front (v.page ∙ ap (λ (l : List ℕ). text₂ ++ drop (length text₂) l) put_after ∙ ap (λ (l : List ℕ). text₂ ++ l) (drop-drop (length text₂) n entry ∙ ap (λ (k : ℕ). drop k entry) (sym long)))
            ∙ sym (append_assoc text text₂ (drop (length (text ++ text₂)) entry));
      }

  -- one byte more
  pub put_byte : (x : ℕ) → n < length page → Put (text ++ (x ∷ [])) entry (set page n x) (n + 1)
  put_byte x h =
      let long : length (text ++ (x ∷ [])) ≡ n + 1 = length-append text (x ∷ []) ∙ ap (λ (k : ℕ). k + 1) (sym w.bytes) in
      let rest : drop (suc n) page ≡ drop (length (text ++ (x ∷ []))) entry =
      ap (λ (k : ℕ). drop k page) (let e : suc n ≡ n + 1 = omega arith in e) ∙ sym (drop-drop 1 n page) ∙ ap (drop 1) put_after ∙ drop-drop 1 n entry ∙ ap (λ (k : ℕ). drop k entry) (sym long) in
      record {
        bytes = sym long;
        page = set_split page n x h ∙ ap₂ (λ (a b : List ℕ). a ++ x ∷ b) put_front rest ∙ sym (append_assoc text (x ∷ []) (drop (length (text ++ (x ∷ []))) entry));
      }

  -- the same of a part that is lent to a call
  pub put_lent : (text₂ part : List ℕ) (m : ℕ) → Put text₂ (lent n page) part m → Put (text ++ text₂) entry (back n page part) (n + m)
  put_lent text₂ part m v =
      let whole : lent n page ≡ drop n page = take_all (length page - n) (drop n page) (omega (arith, length-drop n page)) in
      let rest : drop (length page - n) (drop n page) ≡ [] = drop_of_length-le (drop n page) {i = length page - n} (omega (arith, length-drop n page)) in
      subst (λ (l : List ℕ). Put (text ++ text₂) entry (take n page ++ l) (n + m)) (sym (ap (λ (l : List ℕ). part ++ l) rest ∙ append-nil part))
      (put_more text₂ part m (subst (λ (l : List ℕ). Put text₂ l part m) whole v))

  pub wrote_lent : (least : ℕ) (text₂ part : List ℕ) (m : ℕ) → n + least ≤ length page → Wrote least text₂ (lent n page) part m → Put (text ++ text₂) entry (back n page part) (n + m)
  wrote_lent least text₂ part m h v =
      put_lent text₂ part m (wrote_put least text₂ (lent n page) part m (omega (arith, length_lent n page)) v)

-- the same count, written otherwise
pub put_count : (text entry exit : List ℕ) (n m : ℕ) → n ≡ m → Put text entry exit n → Put text entry exit m
put_count text entry exit n m e w = record { bytes = sym e ∙ w.bytes; page = w.page }

-- the same text, written otherwise
pub put_text : (text text₂ entry exit : List ℕ) (n : ℕ) → text ≡ text₂ → Put text entry exit n → Put text₂ entry exit n
put_text text text₂ entry exit n e w = subst (λ (t : List ℕ). Put t entry exit n) e w

pub wrote_text : (least : ℕ) (text text₂ entry exit : List ℕ) (n : ℕ) → text ≡ text₂ → Wrote least text entry exit n → Wrote least text₂ entry exit n
wrote_text least text text₂ entry exit n e w = subst (λ (t : List ℕ). Wrote least t entry exit n) e w

-- ---- a text that is stored from a place on

sets_after : (x : ℕ) (l vs : List ℕ) (i : ℕ) → sets (x ∷ l) (suc i) vs ≡ x ∷ sets l i vs
sets_after x l [] i = refl
sets_after x l (v ∷ vs) i = sets_after x (set l i v) vs (suc i)

-- what stands before the place stays
pub sets_past : (xs ys vs : List ℕ) (i k : ℕ) → i ≡ length xs + k → sets (xs ++ ys) i vs ≡ xs ++ sets ys k vs
sets_past [] ys vs i k e = ap (λ (n : ℕ). sets ys n vs) (omega (arith, e))
sets_past (x ∷ xs) ys vs i k e =
    ap (λ (n : ℕ). sets (x ∷ (xs ++ ys)) n vs) (let s : i ≡ suc (length xs + k) = omega (arith, e) in s)
    ∙ sets_after x (xs ++ ys) vs (length xs + k)
    ∙ ap (λ (l : List ℕ). x ∷ l) (sets_past xs ys vs (length xs + k) k refl)

-- the same of the part of a page that is lent from a place on
pub sets_lent : (vs page : List ℕ) (n k : ℕ) → n ≤ length page → back n page (sets (lent n page) k vs) ≡ sets page (n + k) vs
sets_lent vs page n k h =
    let whole : lent n page ≡ drop n page = take_all (length page - n) (drop n page) (omega (arith, length-drop n page)) in
    let rest : drop (length page - n) (drop n page) ≡ [] = drop_of_length-le (drop n page) {i = length page - n} (omega (arith, length-drop n page)) in
    ap₂ (λ (l r : List ℕ). take n page ++ (sets l k vs ++ r)) whole rest
    ∙ ap (λ (l : List ℕ). take n page ++ l) (append-nil (sets (drop n page) k vs))
    ∙ sym (sets_past (take n page) (drop n page) vs (n + k) k (omega (arith, length-take-le n page h)))
    ∙ ap (λ (l : List ℕ). sets l (n + k) vs) (take-append-drop n page)

pub put_sets : (text entry exit : List ℕ) (n : ℕ) → length text ≤ length entry → Put text entry exit n → exit ≡ sets entry 0 text
put_sets text entry exit n h w = w.page ∙ sym (sets_front entry text h)
