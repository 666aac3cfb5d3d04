-- `page::put_blank_line` meets its contract. The blanks are put, and then the line feed.
use Rattle.std.proofs.Common.{ℕ, List, [], ◌∷◌, ◌++◌, ◌≡◌, ◌≤◌, length, drop, set, replicate, length-append, length-drop, length-take-le, ap, sym, ◌∙◌, arith}
use Rattle.std.proofs.lemmas.List.{length-replicate}
use Rattle.report.specs.Pages.{Put, put_byte}
use Rattle.page.specs.Columns.{blanks, columns_from, line}
use Rattle.page.proofs.put_blank_line.Goals as goal

pub slice_bounds-fill-end-2 : goal.slice_bounds-fill-end-2
slice_bounds-fill-end-2 c = sym (length-take-le 80 c.args.page.now (omega arith))

blank : (page part : List ℕ) → 81 ≤ length page → part ≡ blanks 80 → set (part ++ drop 80 page) 80 10 ≡ (blanks 80 ++ (10 ∷ [])) ++ drop 81 page
blank page part h e =
    let long : length (blanks 80) ≡ 80 = length-replicate {A = ℕ} 80 32 in
    let put : Put (blanks 80) page (part ++ drop 80 page) 80 = record { bytes = sym long; page = ap (λ (l : List ℕ). l ++ drop 80 page) e ∙ ap (λ (n : ℕ). blanks 80 ++ drop n page) (sym long) } in
    let all = put_byte (blanks 80) page (part ++ drop 80 page) 80 put 10 (omega (arith, length-append part (drop 80 page), length-drop 80 page, ap length e, long)) in
    all.page ∙ ap (λ (n : ℕ). (blanks 80 ++ (10 ∷ [])) ++ drop n page) (sym all.bytes)

pub returns : goal.returns
unfolding columns_from line
returns c =
    let page = c.args.page.now in
    blank page c.fill.new.self (omega arith)
    (c.fill.ensures.after (λ y e. e) ∙ ap (λ (n : ℕ). replicate n 32) (length-take-le 80 page (omega arith)))
