-- `page::put_isin` meets its contract. The twelve bytes are those that are stored.
use Rattle.std.proofs.Common.{ℕ, List, ◌++◌, ◌≡◌, ◌+◌, ◌-◌, ◌*◌, ◌≤◌, length, take, drop, drop-drop, append_assoc, ap, ap₂, sym, ◌∙◌, arith}
use Rattle.std.proofs.lemmas.List.Edits.{sets, sets-eq}
use Rattle.page.specs.Page.{isin_of}
use Rattle.page.proofs.Laying.{length_isin}
use Rattle.page.proofs.put_isin.Goals as goal

stored : (page part isin : List ℕ) → 20 ≤ length page → length isin ≡ 12 → part ≡ isin → take 8 page ++ (part ++ drop 12 (drop 8 page)) ≡ sets page 8 isin
stored page part isin h long e =
    let end : 20 ≡ 8 + length isin = omega (arith, long) in
    let rest : drop 12 (drop 8 page) ≡ drop (8 + length isin) page = drop-drop 12 8 page ∙ ap (λ (n : ℕ). drop n page) end in
    ap₂ (λ (l r : List ℕ). take 8 page ++ (l ++ r)) e rest
    ∙ sym (append_assoc (take 8 page) isin (drop (8 + length isin) page))
    ∙ sym (sets-eq isin page 8 (omega (arith, long)))

pub returns : goal.returns
returns c =
    let a = c.args in
    let from : ℕ = 12 * (a.security - 1) in
    let twelve : from + 12 - from ≡ 12 = omega arith in
    stored a.page.now c.copy_from_slice.new.self (isin_of a.isins.now a.security) (omega (arith, c.requires.0)) (length_isin a.isins.now a.security c.requires.1 c.requires.2)
    (c.copy_from_slice.ensures.after ∙ ap (λ (n : ℕ). take n (drop from a.isins.now)) twelve)
