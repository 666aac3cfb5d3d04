-- The program reads no more than `INPUT` bytes, and prints what the whole input would make it print: the largest register and file have 35,238.
use Rattle.std.specs.Prelude.{ℕ, ◌+◌, ◌-◌, ◌*◌, ◌≤◌, ◌<◌, ◌≡◌, List, true, false, not, eqb, ltb, length, get_or, take}
use Rattle.std.proofs.Common.{arith, ap, ap₂, ◌∙◌, length-drop, get_or-take, take-take, take_all, length-take-le, ne_eqb, ltb-true, ltb-false}
use Rattle.std.proofs.Math.Path.{sym}
use Rattle.laws.specs.Asked.{Said, passed, failed, ask, within, within_high}
use Rattle.laws.specs.Refusals.{accepted_not}
use Rattle.laws.specs.Words.{word16, word16_at}
use Rattle.register.specs.Register.{register_read, right_size}
use Rattle.register.specs.Register as register
use Rattle.files.specs.File.{refusal, count, size}
use Rattle.replay.specs.Replay.{replay_refusal, passing_file}
use Rattle.report.specs.Lines.{refusal_line}
use Rattle.transcript.specs.Transcript.{register_length, register_in, file_in, input_refusal, transcript}

-- a file that is longer than the largest is refused by 5, "The file's count, width or length is wrong."
long_file : (file : List ℕ) → 34820 < length file → refusal file ≡ 5
unfolding refusal
long_file file h = go (ask (ltb 2048 (count file))) (ask (not (eqb (get_or file 2 0 + 256 * get_or file 3 0) 16)))
  where
    go : Said (ltb 2048 (count file)) → Said (not (eqb (get_or file 2 0 + 256 * get_or file 3 0) 16)) → refusal file ≡ 5
    go (passed p) w = rw p
    go (failed p) (passed w) = rw (p, w)
    go (failed p) (failed w) =
        rw (p, w, ne_eqb (length file) (size (count file)) (λ e. omega (arith, e, ltb-false 2048 (count file) p)))

-- a register whose count is not 1 to 32 is refused by 1, "The register's count or length .. is wrong."
wrong_count : (bytes : List ℕ) → within 1 32 (word16_at bytes 0) ≡ false → (register_read bytes).number ≡ 1
unfolding register_read right_size register.count register.refusal
wrong_count bytes e = rw e

-- two inputs with the same refusal print the same
same_refusal : (a b : List ℕ) → input_refusal a ≡ input_refusal b → (input_refusal b ≡ 0 → ⊥) → transcript a ≡ transcript b
unfolding transcript
same_refusal a b e n =
    accepted_not (input_refusal a) _ (refusal_line (input_refusal a)) (λ z. n (sym e ∙ z))
    ∙ ap refusal_line e
    ∙ sym (accepted_not (input_refusal b) _ (refusal_line (input_refusal b)) n)

-- the count of a part of a list that has both its bytes
count_of_part : (n : ℕ) (bytes : List ℕ) → 2 ≤ n → word16_at (take n bytes) 0 ≡ word16_at bytes 0
count_of_part n bytes h = ap₂ word16 (get_or-take n bytes 0 0 (omega arith)) (get_or-take n bytes 1 0 (omega arith))

-- the refusal of an input whose register has a wrong count, and of one whose file is too long
refused_count : (input : List ℕ) → within 1 32 (word16_at input 0) ≡ false → input_refusal input ≡ 1
unfolding input_refusal replay_refusal
refused_count input e = rw (wrong_count (register_in input) (ap (within 1 32) (count_of_part (register_length input) input (omega arith)) ∙ e))

module _ (input : List ℕ) (most : ℕ) (room : 35239 ≤ most) where
  abbrev cut : List ℕ
  cut = take most input

  same_count : word16_at cut 0 ≡ word16_at input 0
  same_count = count_of_part most input (omega arith)

  same_length : register_length cut ≡ register_length input
  same_length = ap (λ (c : ℕ). 2 + 13 * c) same_count

  module _ (counted : within 1 32 (word16_at input 0) ≡ true) (longer : most < length input) where
    small : register_length input ≤ 418
    small = omega (arith, within_high 1 32 (word16_at input 0) counted)

    same_register : register_in cut ≡ register_in input
    same_register = ap (λ (k : ℕ). take k cut) same_length ∙ take-take (register_length input) most input (omega (arith, small))

    long : 34820 < length (file_in input)
    long = omega (arith, length-drop (register_length input) input, small)

    cut_long : 34820 < length (file_in cut)
    cut_long =
        omega (arith, length-drop (register_length cut) cut, same_length, small, length-take-le most input (omega (arith, longer)))

    both_long : transcript cut ≡ transcript input
    unfolding input_refusal replay_refusal
    both_long =
        same_refusal cut input (rw (same_register, long_file (file_in cut) cut_long, long_file (file_in input) long))
        (λ z. omega (arith, sym (long_file (file_in input) long) ∙ passing_file (register_in input) (file_in input) z))

  pub cut_prints : transcript cut ≡ transcript input
  cut_prints = go (ask (within 1 32 (word16_at input 0))) (ask (ltb most (length input)))
    where
      go : Said (within 1 32 (word16_at input 0)) → Said (ltb most (length input)) → transcript cut ≡ transcript input
      go counted (failed short) = ap transcript (take_all most input (ltb-false most (length input) short))
      go (passed counted) (passed longer) = both_long counted (ltb-true most (length input) longer)
      go (failed wrong) (passed longer) =
          let e = refused_count input wrong in
          same_refusal cut input (refused_count cut (ap (within 1 32) same_count ∙ wrong) ∙ sym e) (λ z. omega (arith, sym e ∙ z))

-- the bytes that the program's buffer has room for
abbrev pub INPUT : ℕ
INPUT = 36864

pub first_bytes : (input : List ℕ) → transcript (take INPUT input) ≡ transcript input
first_bytes input = cut_prints input INPUT (omega arith)
