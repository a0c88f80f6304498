-- The channels of the pairs.
use Rattle.std.proofs.Common.{◌≡◌, ◌≢◌, ℕ, zero, suc, ◌+◌, ◌*◌, ◌<◌, ◌≤◌, ◌⊎◌, true, false, eqb, List, [], ◌∷◌, ◌++◌, map, take, length, get_or, sym, ap, ap₂}
use Rattle.std.proofs.Common.{◌∙◌, refl, subst, inl, inr, ⊎_elim, ne_eqb, length-take, add-one, arith}
use Rattle.std.proofs.{Math.Seq.take-suc, lemmas.Bool.eqb-true, lemmas.List.length-map, lemmas.List.get_or-map, lemmas.List.Folds.Any-from_list_any}
use Rattle.std.{proofs.lemmas.Map.Keys.IsDistinct-from_apart, proofs.lemmas.Map.Steps.length-le_from_distinct_below, specs.List.list_any}
use mathlib.Core.Logic.{dite}
use native.Mathlib.Decide.{ℕ_discrete, dec_le}
use Rattle.cells.{proofs.Heads.append_one, specs.Ports.AreBorders, specs.Ports.border_at, specs.Rule.no_channel, specs.Rule.from_of}
use Rattle.cells.specs.{Rule.to_of, Rule.lag_of, Rule.twin_of, Rule.AreChannelsOf, Rule.AreSingle, declared.table.Border.Border, declared.table.Channel.Channel}
use Rattle.cells.specs.Pairs.{Pair, ArePairs, no_pair, pair_at, channel_there, channel_back, channels_from, channels_of, AreLags}

pub length-channels_from : (e : ℕ) (xs : List Pair) → length (channels_from e xs) ≡ 2 * length xs
length-channels_from e [] = refl
length-channels_from e (x ∷ xs) = let h = length-channels_from (e + 2) xs in omega arith

pub channels_from-snoc : (e : ℕ) (xs : List Pair) (x : Pair) → channels_from e (xs ++ x ∷ [])
    ≡ channels_from e xs ++ (channel_there x (e + 2 * length xs) ∷ channel_back x (e + 2 * length xs) ∷ [])
channels_from-snoc e [] x = let M : ℕ → List Channel = λ z. channel_there x z ∷ channel_back x z ∷ [] in
    ap M (omega arith)
channels_from-snoc e (y ∷ ys) x = let h = channels_from-snoc (e + 2) ys x in let n : ℕ = length ys in
    let M : ℕ → List Channel = λ z. channels_from (e + 2) ys ++ (channel_there x z ∷ channel_back x z ∷ []) in
    let same : e + 2 + 2 * n ≡ e + 2 * suc n = omega arith in
    ap (λ z. channel_there y e ∷ channel_back y e ∷ z) (h
    ∙ ap M same)

abbrev Ahead : ℕ → List Pair → ℕ → ℕ → Type 0
Ahead e xs d k =
    get_or (channels_from e xs) d no_channel ≡ channel_there (pair_at xs k) (e + 2 * k)

abbrev Behind : ℕ → List Pair → ℕ → ℕ → Type 0
Behind e xs d k =
    get_or (channels_from e xs) d no_channel ≡ channel_back (pair_at xs k) (e + 2 * k)

-- each channel is one way of a pair or the other
pub channel_is : (e : ℕ) (xs : List Pair) (d : ℕ) → d < 2 * length xs → (k : ℕ) × (k < length xs)
    × (((d ≡ 2 * k) × Ahead e xs d k) ⊎ ((d ≡ 2 * k + 1) × Behind e xs d k))
channel_is e [] d lt = absurd (omega arith)
channel_is e (x ∷ xs) zero lt = (
  0,
  omega arith,
  inl (
    omega arith,
    ap (λ z. channel_there x z) (omega arith),
  ),
)
channel_is e (x ∷ xs) (suc zero) lt = (
  0,
  omega arith,
  inr (
    omega arith,
    ap (λ z. channel_back x z) (omega arith),
  ),
)
channel_is e (x ∷ xs) (suc (suc d)) lt = let h = channel_is (e + 2) xs d (omega arith) in let k : ℕ = h.0 in let b = h.1 in
    let same : e + 2 + 2 * k ≡ e + 2 * suc k = omega arith in (
      suc k,
      omega arith,
      ⊎_elim (λ u. let v = u.0 in inl (
        omega arith,
        u.1 ∙ ap (λ z. channel_there (pair_at xs k) z) same,
      ))
          (λ u. let v = u.0 in inr (
            omega arith,
            u.1 ∙ ap (λ z. channel_back (pair_at xs k) z) same,
          )) h.2,
    )

module _ (count : ℕ) (xs : List Pair) (ok : ArePairs count xs) where
  abbrev cs : List Channel
  cs = channels_of xs

  -- which way of its pair a channel is
  abbrev Ends : ℕ → ℕ → Type 0
  Ends d k = ((from_of cs d ≡ (pair_at xs k).0) × (to_of cs d ≡ (pair_at xs k).1) × (d ≡ 2 * k) × (twin_of cs d ≡ 2 * k + 1))
      ⊎ ((from_of cs d ≡ (pair_at xs k).1) × (to_of cs d ≡ (pair_at xs k).0) × (d ≡ 2 * k + 1) × (twin_of cs d ≡ 2 * k))

  -- a channel, its pair and the channel back
  record Known (d : ℕ) : Type 0 where
    k : ℕ
    below : k < length xs
    twin_in : twin_of cs d < length cs
    ends : Ends d k
    soon : 1 ≤ lag_of cs d
    late : lag_of cs d ≤ 32

  known_by : (d k : ℕ) (is : Channel) → k < length xs → get_or cs d no_channel ≡ is → is.twin < length cs → 1 ≤ is.lag → is.lag ≤ 32
      → (from_of cs d ≡ is.from → to_of cs d ≡ is.to → twin_of cs d ≡ is.twin → Ends d k) → Known d
  known_by d k is below e twin soon late ends = let tw = ap (λ (x : Channel). x.twin) e in let lg = ap (λ (x : Channel). x.lag) e in record {
    k = k;
    below = below;
    twin_in = omega arith;
    ends = ends (ap (λ (x : Channel). x.from) e) (ap (λ (x : Channel). x.to) e) tw;
    soon = omega arith;
    late = omega arith;
  }

  known : (d : ℕ) → d < length cs → Known d
  known d lt = let l = length-channels_from 0 xs in let h = channel_is 0 xs d (omega arith) in let k : ℕ = h.0 in
      let b : k < length xs = h.1 in let p = ok.each k b in ⊎_elim
      (λ u. known_by d k (channel_there (pair_at xs k) (0 + 2 * k)) b u.1 (omega arith) p.2 p.3 (λ from to twin. inl (from, to, u.0, omega arith)))
      (λ u. known_by d k (channel_back (pair_at xs k) (0 + 2 * k)) b u.1 (omega arith) p.4 p.5 (λ from to twin. inr (from, to, u.0, omega arith)))
      h.2

  ends_of : (d : ℕ) → d < length cs → (from_of cs d < count) × (to_of cs d < count) × (from_of cs d ≢ to_of cs d)
  ends_of d lt = let h = known d lt in let p = ok.each h.k h.below in let a = p.0 in let c = p.1 in ⊎_elim
      (λ u. let x = u.0 in let y = u.1 in (omega arith, omega arith, λ z. omega arith))
      (λ u. let x = u.0 in let y = u.1 in (omega arith, omega arith, λ z. omega arith)) h.ends

  back_of : (d : ℕ) → d < length cs → (from_of cs (twin_of cs d) ≡ to_of cs d) × (to_of cs (twin_of cs d) ≡ from_of cs d)
      × (twin_of cs (twin_of cs d) ≡ d)
  back_of d lt = let h = known d lt in let g = known (twin_of cs d) h.twin_in in let k : ℕ = h.k in let j : ℕ = g.k in ⊎_elim
      (λ u. let x = u.2 in let y = u.3 in ⊎_elim
      (λ v. let z = v.2 in absurd (omega arith))
      (λ v. let z = v.2 in let w = v.3 in let same : j ≡ k = omega arith in (
        v.0 ∙ ap (λ (i : ℕ). (pair_at xs i).1) same ∙ sym u.1,
        v.1 ∙ ap (λ (i : ℕ). (pair_at xs i).0) same ∙ sym u.0,
        omega arith,
      )) g.ends)
      (λ u. let x = u.2 in let y = u.3 in ⊎_elim
      (λ v. let z = v.2 in let w = v.3 in let same : j ≡ k = omega arith in
      (v.0 ∙ ap (λ (i : ℕ). (pair_at xs i).0) same ∙ sym u.1, v.1 ∙ ap (λ (i : ℕ). (pair_at xs i).1) same ∙ sym u.0, omega arith))
      (λ v. let z = v.2 in absurd (omega arith)) g.ends)
      h.ends

  pub are_channels : AreChannelsOf count cs
  are_channels = record {
    from_in = λ d lt. (ends_of d lt).0;
    to_in = λ d lt. (ends_of d lt).1;
    apart = λ d lt. (ends_of d lt).2;
    soon = λ d lt. (known d lt).soon;
    late = λ d lt. (known d lt).late;
    twin_in = λ d lt. (known d lt).twin_in;
    back = λ d lt. (back_of d lt).0;
    forth = λ d lt. (back_of d lt).1;
    again = λ d lt. (back_of d lt).2;
  }

  same_pair : (i j : ℕ) → i < length xs → j < length xs → (pair_at xs i).0 ≡ (pair_at xs j).0 → (pair_at xs i).1 ≡ (pair_at xs j).1 → i ≡ j
  same_pair i j li lj a c = dite (ℕ_discrete i j) (λ y. y)
      (λ ne. absurd (dite (dec_le (suc i) j) (λ le. ok.distinct i j le lj a c) (λ no. ok.distinct j i (omega arith) li (sym a) (sym c))))

  pub are_single : AreSingle cs
  are_single d e ld le a c = let h = known d ld in let g = known e le in let p = ok.each h.k h.below in let q = ok.each g.k g.below in
      let pl = p.0 in let ql = q.0 in ⊎_elim
      (λ u. let x = u.2 in ⊎_elim
      (λ v. let y = v.2 in let s = same_pair h.k g.k h.below g.below (sym u.0 ∙ a ∙ v.0) (sym u.1 ∙ c ∙ v.1) in omega arith)
      (λ v. let u0 = u.0 in let u1 = u.1 in let v0 = v.0 in let v1 = v.1 in absurd (omega arith)) g.ends)
      (λ u. let x = u.2 in ⊎_elim
      (λ v. let u0 = u.0 in let u1 = u.1 in let v0 = v.0 in let v1 = v.1 in absurd (omega arith))
      (λ v. let y = v.2 in let s = same_pair h.k g.k h.below g.below (sym u.1 ∙ c ∙ v.1) (sym u.0 ∙ a ∙ v.0) in omega arith) g.ends)
      h.ends

  -- there are not many pairs
  abbrev code : Pair → ℕ
  code x = 64 * x.0 + x.1

  codes_apart : count ≤ 64 → (i j d : ℕ) → i < j → j < length (map code xs)
      → eqb (get_or (map code xs) i d) (get_or (map code xs) j d) ≡ false
  codes_apart few i j d lt lj = let l = length-map xs code in let li' : i < length xs = omega arith in
      let lj' : j < length xs = omega arith in
      let a = get_or-map code xs i no_pair d li' in let c = get_or-map code xs j no_pair d lj' in let p = ok.each i li' in
      let q = ok.each j lj' in let p1 = p.1 in let q1 = q.1 in
      ne_eqb (get_or (map code xs) i d) (get_or (map code xs) j d) (λ e. ok.distinct i j lt lj' (omega arith) (omega arith))

  codes_below : count ≤ 64 → (q : ℕ) → list_any (eqb q) (map code xs) ≡ true → q < 4096
  codes_below few q is = let w = Any-from_list_any (eqb q) (map code xs) is in let l = length-map xs code in let lk = w.2 in
      let k : ℕ = w.0 in let lk' : k < length xs = omega arith in
      let a = get_or-map code xs k no_pair w.1 lk' in let p = ok.each k lk' in let p0 = p.0 in let p1 = p.1 in let e = eqb-true q w.1 w.4 in
      let f = w.3 in omega arith

  pub few_pairs : count ≤ 64 → length xs ≤ 4096
  few_pairs few = let l = length-map xs code in
      let h = length-le_from_distinct_below (map code xs) 4096 (IsDistinct-from_apart eqb (map code xs) (codes_apart few))
      (codes_below few) in omega arith

pub channels_of-take : (xs : List Pair) (i : ℕ) → i < length xs → channels_of (take (i + 1) xs)
    ≡ channels_of (take i xs) ++ (channel_there (pair_at xs i) (2 * i) ∷ channel_back (pair_at xs i) (2 * i) ∷ [])
channels_of-take xs i lt = let l = length-take i xs in let x : Pair = pair_at xs i in
    let M : ℕ → List Channel = λ z. channels_of (take i xs) ++ (channel_there x z ∷ channel_back x z ∷ []) in
    ap (λ z. channels_of (take z xs)) (add-one i) ∙ ap channels_of (take-suc xs i no_pair lt) ∙ channels_from-snoc 0 (take i xs) x
    ∙ ap M (omega arith)

pub push_two : (xs : List Pair) (i : ℕ) → i < length xs → (old mid new : List Channel) (a b : Channel) → old ≡ channels_of (take i xs)
    → mid ≡ old ++ a ∷ [] → new ≡ mid ++ b ∷ []
    → a ≡ channel_there (pair_at xs i) (2 * i)
    → b ≡ channel_back (pair_at xs i) (2 * i)
    → new ≡ channels_of (take (i + 1) xs)
push_two xs i lt old mid new a b o m n is_a is_b = n ∙ ap (λ z. z ++ b ∷ []) m ∙ append_one old a (b ∷ []) ∙ ap (λ z. z ++ a ∷ b ∷ []) o
    ∙ ap₂ (λ x y. channels_of (take i xs) ++ x ∷ y ∷ []) is_a is_b ∙ sym (channels_of-take xs i lt)

module _ (xs : List Pair) where
  at_even : (j : ℕ) → j < length xs → Ahead 0 xs (2 * j) j
  at_even j lt = let h = channel_is 0 xs (2 * j) (omega arith) in ⊎_elim
      (λ u. let v = u.0 in let same : h.0 ≡ j = omega arith in subst (λ k. Ahead 0 xs (2 * j) k) same u.1)
      (λ u. let v = u.0 in absurd (omega arith)) h.2

  at_odd : (j : ℕ) → j < length xs → Behind 0 xs (2 * j + 1) j
  at_odd j lt = let h = channel_is 0 xs (2 * j + 1) (omega arith) in ⊎_elim (λ u. let v = u.0 in absurd (omega arith))
      (λ u. let v = u.0 in let same : h.0 ≡ j = omega arith in subst (λ k. Behind 0 xs (2 * j + 1) k) same u.1) h.2

  pub lags_are : (p : ℕ) (borders : List Border) → AreBorders (channels_of xs) p borders → AreLags xs p borders
  lags_are p borders f = let cs : List Channel = channels_of xs in let long = length-channels_from 0 xs in record {
    each = λ k lt. let r = f.each k lt in let d : ℕ = (border_at borders k).inward in let i = r.inside in
        let h = channel_is 0 xs d (omega arith) in (
          h.0,
          h.1,
          ⊎_elim
              (λ u. inl (
                sym (ap (λ (x : Channel). x.from) u.1) ∙ r.sender,
                sym (ap (λ (x : Channel). x.to) u.1) ∙ r.receiver,
                sym (ap (λ (x : Channel). x.lag) u.1) ∙ r.late,
              ))
              (λ u. inr (
                sym (ap (λ (x : Channel). x.from) u.1) ∙ r.sender,
                sym (ap (λ (x : Channel). x.to) u.1) ∙ r.receiver,
                sym (ap (λ (x : Channel). x.lag) u.1) ∙ r.late,
              ))
              h.2,
        );
    all = λ q l w. let j : ℕ = w.0 in let lj : j < length xs = w.1 in ⊎_elim
        (λ u. let e = at_even j lj in found (2 * j) q l (omega arith) (ap (λ (x : Channel). x.from) e ∙ u.0) (ap (λ (x : Channel). x.to) e
        ∙ u.1) (ap (λ (x : Channel). x.lag) e ∙ u.2))
        (λ u. let e = at_odd j lj in found (2 * j + 1) q l (omega arith) (ap (λ (x : Channel). x.from) e ∙ u.0)
        (ap (λ (x : Channel). x.to) e ∙ u.1) (ap (λ (x : Channel). x.lag) e ∙ u.2))
        w.2;
  }
    where
      found : (d q l : ℕ) → d < length (channels_of xs) → from_of (channels_of xs) d ≡ q → to_of (channels_of xs) d ≡ p
          → lag_of (channels_of xs) d ≡ l → (k : ℕ) × (k < length borders) × ((border_at borders k).from ≡ q)
          × ((border_at borders k).lag ≡ l)
      found d q l lt a b c = let w = f.all d lt b in let r = f.each w.0 w.1 in
          (w.0, w.1, sym r.sender ∙ ap (from_of (channels_of xs)) w.2 ∙ a, sym r.late ∙ ap (lag_of (channels_of xs)) w.2 ∙ c)
