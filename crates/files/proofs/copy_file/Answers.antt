-- `files::copy_file` meets its contract. What is written is the file of the events that were read, which is the file itself.
use Prim.Native.Nat.{ℕ, ◌<◌}
use mathlib.Core.Path.{◌≡◌, sym, ◌∙◌}
use lib.ListN.{length, get_or}
use Rattle.std.proofs.lemmas.Result.{err_from_is_err_and}
use Rattle.laws.specs.Answers.{number_some, answer_refused}
use Rattle.files.specs.File.{refusal}
use Rattle.files.proofs.Answers.{kept_page, refused_file, copy_answer, copy_page}
use Rattle.files.proofs.copy_file.Goals as goal

pub returns-in_err-file_refusal : goal.returns-in_err-file_refusal
returns-in_err-file_refusal c =
    let file = c.args.file.now in
    let page = c.args.page.now in
    let e = c.in_err-file_refusal.ensures in
    let r : refusal file ≡ 0 → ⊥ = λ z. number_some _ (e ∙ z) in
    let p = err_from_is_err_and c.from_residual.result c.from_residual.ensures.1 in
    rw (refused_file file (length page) r, p.1, p.2)
    (record { value = answer_refused (refusal file) (length file) _ e; page_after = kept_page (refusal file) file page r })

pub returns : goal.returns
returns c =
    let file = c.args.file.now in
    let page = c.args.page.now in
    let byte : (i : ℕ) → get_or file i 0 < 256 = λ i. (c.type_inv.file i).fits in
    let passes : refusal file ≡ 0 = sym c.in_ok-file_refusal.ensures in
    record { value = c.write_file.ensures.value ∙ copy_answer file page c.read_events.result c.event_count-count.result byte passes c.event_count-count.ensures c.read_events.ensures; page_after = c.write_file.ensures.page_after ∙ copy_page file page c.read_events.result c.event_count-count.result byte passes c.event_count-count.ensures c.read_events.ensures }
