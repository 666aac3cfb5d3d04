-- The netted quantity of a member's business of a kind in a security, worked out from the trades of the day alone: by no list of keys and in no order.
use Prim.Native.Nat.{ℕ, suc, ◌+◌, ◌-◌, ◌≤◌, ◌<◌}
use native.Mathlib.Omega.{arith}
use mathlib.Core.Path.{◌≡◌, refl, ap, sym, ◌∙◌}
use mathlib.Core.List.{List, [], ◌∷◌, ◌++◌, map}
use mathlib.Core.Bool.{Bool, false, not, cond, ◌&&◌}
use lib.Dec.{eqb, ltb}
use borrow.Author.Tests.{eqb-true, eqb-false, eq-eqb, ne_eqb}
use Rattle.laws.specs.Lists.{only, sum}
use Rattle.laws.specs.Listed.{sum_append}
use Rattle.laws.specs.Sums.{only_zero, sum_each, sum_same, sum_map}
use Rattle.laws.specs.Asked.{Said, passed, failed, ask, and_left, and_right, Within}
use Rattle.events.specs.declared.Trade.{Trade}
use Rattle.events.specs.declared.Event.{Event}
use Rattle.events.specs.declared.Event.TheVariants as event
use Rattle.plain.specs.declared.Opening.{Opening}
use Rattle.plain.specs.declared.Kind.{Kind}
use Rattle.plain.specs.declared.Kind.TheVariants.{Own, Client}
use Rattle.plain.specs.declared.Position.{Position}
use Rattle.plain.specs.Book.{new, first_day}
use Rattle.plain.specs.Netting.{kind_number, Key, keys, units, made, net, netted}
use Rattle.plain.specs.Dealing.{fresh}
use Rattle.plain.specs.Calls.{Call}
use Rattle.plain.specs.Histories.{run, accepted_events, formed, traded_on, trades_on}
use Rattle.plain.specs.Invariants.{netted_of}
use Rattle.plain.specs.Claim.{sold_of, bought_of, is_of, NettedByKind}
use Rattle.plain.proofs.Netted.{is_key, only_above, sum_net, keys_complete}
use Rattle.plain.proofs.Formed.{formed_new}

number_most : (kind : Kind) → kind_number kind ≤ 1
number_most Own = omega arith
number_most Client = omega arith

-- a side, short or long: the positions of it that are a member's business, and what the trades make of that business on it
module _ (member kind security d : ℕ) (held : Position → Bool) (g : ℕ → ℕ → ℕ → List Trade → ℕ) (none : g member kind security [] ≡ 0)
    (one_key : (day : ℕ) (trades : List Trade) (k : Key) → netted_of held (net day trades k) ≡ only (is_key member kind security k && eqb (day + 2) (d + 2)) (g k.member (kind_number k.kind) k.security trades))
    (ks : List Key) (complete : (c : ℕ) → sum (λ k. only (is_key member kind security k) c) ks ≡ c) where
  abbrev made_on : ℕ → List Trade → ℕ
  made_on day trades = only (eqb (day + 2) (d + 2)) (g member kind security trades)

  -- where a key is of that business, what its trades make is what that business' do
  own_key : (day : ℕ) (trades : List Trade) (k : Key) → only (is_key member kind security k && eqb (day + 2) (d + 2)) (g k.member (kind_number k.kind) k.security trades) ≡ only (is_key member kind security k) (made_on day trades)
  own_key day trades k = go (ask (is_key member kind security k))
    where
      go : Said (is_key member kind security k) → only (is_key member kind security k && eqb (day + 2) (d + 2)) (g k.member (kind_number k.kind) k.security trades) ≡ only (is_key member kind security k) (made_on day trades)
      go (passed q) =
          let both = and_left (eqb member k.member && eqb kind (kind_number k.kind)) (eqb security k.security) q in
          let m : member ≡ k.member = eqb-true member k.member (and_left (eqb member k.member) (eqb kind (kind_number k.kind)) both) in
          let n : kind ≡ kind_number k.kind = eqb-true kind (kind_number k.kind) (and_right (eqb member k.member) (eqb kind (kind_number k.kind)) both) in
          let s : security ≡ k.security = eqb-true security k.security (and_right (eqb member k.member && eqb kind (kind_number k.kind)) (eqb security k.security) q) in
          let same : g k.member (kind_number k.kind) k.security trades ≡ g member kind security trades = λ i. g (sym m i) (sym n i) (sym s i) trades in
          simp q (ap (λ (x : ℕ). only (eqb (day + 2) (d + 2)) x) same)
      go (failed q) = simp q

  day_made : (day : ℕ) (trades : List Trade) → netted_of held (netted day trades ks) ≡ made_on day trades
  unfolding netted
  day_made day trades =
      sum_each (λ p. only (held p) p.netted) (net day trades) ks
      ∙ sum_same (λ k. netted_of held (net day trades k)) (λ k. only (is_key member kind security k) (made_on day trades)) ks (λ k. one_key day trades k ∙ own_key day trades k)
      ∙ complete (made_on day trades)

  not_made : (day : ℕ) (trades : List Trade) → eqb (day + 2) (d + 2) ≡ false → netted_of held (netted day trades ks) ≡ 0
  not_made day trades e = day_made day trades ∙ ap (λ (b : Bool). only b (g member kind security trades)) e

  -- days after d make none of delivery day d + 2
  later : (day : ℕ) (trades : List Trade) (es : List Event) → d < day → netted_of held (formed ks day trades es) ≡ 0
  unfolding formed
  later day trades [] h = refl
  later day trades (event.Trade t ∷ es) h = later day (trades ++ t ∷ []) es h
  later day trades (event.Price p ∷ es) h = later day trades es h
  later day trades (event.Delivery x ∷ es) h = later day trades es h
  later day trades (event.Attempt a ∷ es) h = later day trades es h
  later day trades (event.Offer o ∷ es) h = later day trades es h
  later day trades (event.Award a ∷ es) h = later day trades es h
  later day trades (event.Confirm c ∷ es) h = later day trades es h
  later day trades (event.Cash c ∷ es) h = later day trades es h
  later day trades (event.PairOff x ∷ es) h = later day trades es h
  later day trades (event.Close ∷ es) h =
      omega (
        arith,
        sum_append (λ p. only (held p) p.netted) (netted day trades ks) (formed ks (suc day) [] es),
        not_made day trades (ne_eqb (day + 2) (d + 2) (λ e. omega (arith, e, h))),
        later (suc day) [] es (omega arith),
      )

  pub all_made : (day : ℕ) (trades : List Trade) (es : List Event) → netted_of held (formed ks day trades es) ≡ g member kind security (traded_on d day trades es)
  unfolding formed traded_on
  all_made day trades [] = sym none
  all_made day trades (event.Trade t ∷ es) = all_made day (trades ++ t ∷ []) es
  all_made day trades (event.Price p ∷ es) = all_made day trades es
  all_made day trades (event.Delivery x ∷ es) = all_made day trades es
  all_made day trades (event.Attempt a ∷ es) = all_made day trades es
  all_made day trades (event.Offer o ∷ es) = all_made day trades es
  all_made day trades (event.Award a ∷ es) = all_made day trades es
  all_made day trades (event.Confirm c ∷ es) = all_made day trades es
  all_made day trades (event.Cash c ∷ es) = all_made day trades es
  all_made day trades (event.PairOff x ∷ es) = all_made day trades es
  all_made day trades (event.Close ∷ es) = go (ask (eqb day d)) (all_made (suc day) [] es)
    where
      parts : netted_of held (netted day trades ks ++ formed ks (suc day) [] es) ≡ netted_of held (netted day trades ks) + netted_of held (formed ks (suc day) [] es)
      parts = sum_append (λ p. only (held p) p.netted) (netted day trades ks) (formed ks (suc day) [] es)

      go : Said (eqb day d) → netted_of held (formed ks (suc day) [] es) ≡ g member kind security (traded_on d (suc day) [] es)
          → netted_of held (netted day trades ks ++ formed ks (suc day) [] es) ≡ g member kind security (cond (eqb day d) trades (traded_on d (suc day) [] es))
      go (passed e) ih =
          let same : day ≡ d = eqb-true day d e in
          let here : netted_of held (netted day trades ks) ≡ g member kind security trades = day_made day trades ∙ ap (λ (b : Bool). only b (g member kind security trades)) (eq-eqb (day + 2) (d + 2) (omega (arith, same))) in
          simp e (omega (arith, parts, here, later (suc day) [] es (omega (arith, same))))
      go (failed e) ih =
          simp e (omega (arith, parts, not_made day trades (ne_eqb (day + 2) (d + 2) (λ f. eqb-false day d e (omega (arith, f)))), ih))

-- the two sides of one key
module _ (member kind security d day : ℕ) (trades : List Trade) (k : Key) where
  abbrev counted : Bool
  counted = is_key member kind security k && eqb (day + 2) (d + 2)

  short_key : netted_of (λ p. p.short && is_of member kind security (d + 2) p) (net day trades k) ≡ only counted (sold_of k.member (kind_number k.kind) k.security trades - bought_of k.member (kind_number k.kind) k.security trades)
  unfolding made units
  short_key =
      let sold = sold_of k.member (kind_number k.kind) k.security trades in
      let bought = bought_of k.member (kind_number k.kind) k.security trades in
      omega (
        arith,
        sum_net day trades k (λ p. only (p.short && is_of member kind security (d + 2) p) p.netted),
        only_zero (ltb sold bought),
        only_above bought sold counted,
      )

  long_key : netted_of (λ p. not p.short && is_of member kind security (d + 2) p) (net day trades k) ≡ only counted (bought_of k.member (kind_number k.kind) k.security trades - sold_of k.member (kind_number k.kind) k.security trades)
  unfolding made units
  long_key =
      let sold = sold_of k.member (kind_number k.kind) k.security trades in
      let bought = bought_of k.member (kind_number k.kind) k.security trades in
      omega (
        arith,
        sum_net day trades k (λ p. only (not p.short && is_of member kind security (d + 2) p) p.netted),
        only_zero (ltb bought sold),
        only_above sold bought counted,
      )

-- a position as it was made has the same netted quantity and is of the same business
fresh_same : (held : Position → Bool) → ((p : Position) → held (fresh p) ≡ held p) → (ps : List Position) → netted_of held (map fresh ps) ≡ netted_of held ps
unfolding fresh
fresh_same held h ps =
    sum_map (λ p. only (held p) p.netted) fresh ps
    ∙ sum_same (λ p. only (held (fresh p)) (fresh p).netted) (λ p. only (held p) p.netted) ps (λ p. ap (λ (b : Bool). only b p.netted) (h p))

module _ (opening : Opening) (cs : List Call) (member security d : ℕ) (kind : Kind) (h : Within 1 63 member) (k : Within 1 opening.register.count security) where
  abbrev n : ℕ
  n = kind_number kind

  abbrev ks : List Key
  ks = keys opening.register.count

  abbrev ps : List Position
  ps = (run (new opening) cs).positions

  abbrev es : List Event
  es = accepted_events (new opening) cs

  abbrev short : Position → Bool
  short p = p.short && is_of member n security (d + 2) p

  abbrev long : Position → Bool
  long p = not p.short && is_of member n security (d + 2) p

  complete : (c : ℕ) → sum (λ x. only (is_key member n security x) c) ks ≡ c
  complete c = keys_complete opening.register.count member n security c h (number_most kind) k

  pub by_kind_new : NettedByKind member n security d (trades_on opening es d) ps
  unfolding fresh
  by_kind_new =
      record {
        shorts =
            sym (fresh_same short (λ p. refl) ps) ∙ ap (netted_of short) (formed_new opening cs)
            ∙ all_made member n security d short (λ m x s ts. sold_of m x s ts - bought_of m x s ts) refl (short_key member n security d) ks complete (first_day opening) [] es;
        longs =
            sym (fresh_same long (λ p. refl) ps) ∙ ap (netted_of long) (formed_new opening cs)
            ∙ all_made member n security d long (λ m x s ts. bought_of m x s ts - sold_of m x s ts) refl (long_key member n security d) ks complete (first_day opening) [] es;
      }
