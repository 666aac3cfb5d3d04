-- Lists of calls one after the other: none, one, and two lists.
use mathlib.Core.Path.{◌≡◌, refl, ap, sym, ◌∙◌, subst}
use mathlib.Core.List.{List, [], ◌∷◌, ◌++◌}
use Rattle.plain.specs.Calls.{Call}
use Rattle.plain.specs.Histories.{run}
use Rattle.history.specs.Runs.{Stand, view, Return, Answers, Runs, stop, step, last, RunsTo}
use Rattle.history.proofs.Claim.{agrees}

pub runs_none : (s : Stand) → RunsTo s [] s
unfolding last
runs_none s = record { returns = []; runs = stop; end = refl }

pub runs_one : {s : Stand} {c : Call} {r : Return} → Answers s c r → RunsTo s (c ∷ []) r.stand
unfolding last
runs_one {r = r} k = record { returns = r ∷ []; runs = step k stop; end = refl }

joined : {s : Stand} {cs ds : List Call} {rs ts : List Return} → Runs s cs rs → Runs (last s rs) ds ts → Runs s (cs ++ ds) (rs ++ ts)
unfolding last
joined stop k = k
joined (step a ks) k = step a (joined ks k)

last_joined : (s : Stand) (rs ts : List Return) → last s (rs ++ ts) ≡ last (last s rs) ts
unfolding last
last_joined s [] ts = refl
last_joined s (r ∷ rs) ts = last_joined r.stand rs ts

pub runs_then : {s y z : Stand} {cs ds : List Call} → RunsTo s cs y → RunsTo y ds z → RunsTo s (cs ++ ds) z
runs_then {s} {y} {z} {cs} {ds} a b =
    record {
      returns = a.returns ++ b.returns;
      runs = joined a.runs (subst (λ (x : Stand). Runs x ds b.returns) (sym a.end) b.runs);
      end = last_joined s a.returns b.returns ∙ ap (λ (x : Stand). last x b.returns) a.end ∙ b.end;
    }

-- the plain book follows
pub runs_book : {s z : Stand} {cs : List Call} → RunsTo s cs z → view z ≡ run (view s) cs
runs_book r = sym (ap view r.end) ∙ agrees r.runs
