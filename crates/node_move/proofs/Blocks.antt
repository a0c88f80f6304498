-- Entries in blocks of links that follow one another by number: another one in its place, and a block more.
use Rattle.std.proofs.Common.{◌≡◌, ◌≢◌, ℕ, zero, suc, ◌+◌, ◌-◌, ◌/◌, ◌%◌, ◌<◌, true, false, inl, inr, List, [], ◌∷◌, ◌++◌, length, get_or}
use Rattle.std.proofs.Common.{refl, ap, sym, ◌∙◌, subst, arith}
use Rattle.std.proofs.lemmas.{Bool.cases_Bool, Bool.cases_lt, Bool.eqb-true, Bool.eqb-false, Bool.eq-eqb, Bool.ne_eqb}
use Rattle.std.proofs.lemmas.List.{get_or-set_same, get_or-set_other, get_or_append_left, get_or-append-add, get_or-replicate, length-set, length-append, length-replicate}
use Rattle.std.specs.Prelude.{set, replicate, ◌==◌, if◌then◌else◌, None, Some}
use Rattle.node_move.proofs.Entries.{entry_own, entry_kept, entry_past, none_there, other_there}
use Rattle.node_move.specs.Entries.{entry_at, entry_in, rows_of, no_entry, block_at, HasNone, IsBlock, AreBlocks, HasItsBlock, HasNoBlock, StandsAt}
use Rattle.node_move.specs.{Starts.entry_number, declared.TheConstants.BLOCK_LINKS, declared.space.Entry.Entry}

-- ENTRIES BEHIND OTHERS
entry_short : (es ds : List Entry) (m k : ℕ) → k < length es → entry_at (es ++ ds) m k ≡ entry_at es m k
entry_short [] ds m k lt = absurd (omega arith)
entry_short (x ∷ es) ds m zero lt = refl
entry_short (x ∷ es) ds m (suc k) lt = entry_short es ds m k (omega arith)

entry_behind : (es ds : List Entry) (m k : ℕ) → entry_at (es ++ ds) m (length es + k) ≡ entry_at ds m k
entry_behind [] ds m k = let z : 0 + k ≡ k = omega arith in ap (entry_at ds m) z
entry_behind (x ∷ es) ds m k =
    let z : suc (length es) + k ≡ suc (length es + k) = omega arith in
    ap (entry_at (x ∷ (es ++ ds)) m) z ∙ entry_behind es ds m k

entry_of_others : (n : ℕ) (e : Entry) (m k : ℕ) → (e.link == m) ≡ false → entry_at (replicate n e) m k ≡ None
entry_of_others zero e m k ne = refl
entry_of_others (suc n) e m zero ne = rw ne refl
entry_of_others (suc n) e m (suc k) ne = entry_of_others n e m k ne

entry_own_copy : (n : ℕ) (e : Entry) (m k : ℕ) → k < n → (e.link == m) ≡ true → entry_at (replicate n e) m k ≡ Some e
entry_own_copy zero e m k lt own = absurd (omega arith)
entry_own_copy (suc n) e m zero lt own = rw own refl
entry_own_copy (suc n) e m (suc k) lt own = entry_own_copy n e m k (omega arith) own

read_behind : (es : List Entry) (n : ℕ) (e : Entry) (k : ℕ) → k < n → get_or (es ++ replicate n e) (length es + k) no_entry ≡ e
read_behind es n e k lt = get_or-append-add es (replicate n e) k no_entry ∙ get_or-replicate n k e no_entry lt

entry_elsewhere : (es : List Entry) (e : Entry) (m k j : ℕ) → j ≢ k → entry_at (set es k e) m j ≡ entry_at es m j
entry_elsewhere [] e m k j ne = refl
entry_elsewhere (x ∷ es) e m zero zero ne = absurd (ne refl)
entry_elsewhere (x ∷ es) e m zero (suc j) ne = refl
entry_elsewhere (x ∷ es) e m (suc k) zero ne = refl
entry_elsewhere (x ∷ es) e m (suc k) (suc j) ne = entry_elsewhere es e m k j (λ q. ne (ap suc q))

-- NO ENTRY OF A BLOCK
none_of_block : (ks : List ℕ) (es : List Entry) (m : ℕ) → HasNone es (m / BLOCK_LINKS) → entry_in (rows_of ks es) m ≡ None
none_of_block ks es m none =
    elim (cases_lt (entry_number ks m) (length es)) [
      | inl lt ↦ other_there ks es m (entry_number ks m) refl lt (λ is. none (entry_number ks m) lt (ap (λ (l : ℕ). l / BLOCK_LINKS) is))
      | inr ge ↦ none_there ks es m ge
    ]

pub has_none : (ks : List ℕ) (es : List Entry) (m : ℕ) → AreBlocks ks es → HasNoBlock ks es m → HasNone es (m / BLOCK_LINKS)
has_none ks es m laid lacks =
    elim (laid.each (m / BLOCK_LINKS)) [
      | inl none ↦ none
      | inr block ↦ let at = block (m % BLOCK_LINKS) (omega arith) in absurd (lacks at.0 at.1)
    ]

-- ANOTHER ENTRY IN ITS PLACE
same_block : (es : List Entry) (k j : ℕ) (e : Entry) → k < length es → e.link / BLOCK_LINKS ≡ block_at es k → block_at (set es k e) j ≡ block_at es j
same_block es k j e lt is =
    elim (cases_Bool (j == k)) [
      | inl q ↦
          let s : j ≡ k = eqb-true j k q in
          rw s (ap (λ (d : Entry). d.link / BLOCK_LINKS) (get_or-set_same es k e no_entry lt) ∙ is)
      | inr q ↦ ap (λ (d : Entry). d.link / BLOCK_LINKS) (get_or-set_other es k j e no_entry (eqb-false j k q))
    ]

pub blocks_set : (ks : List ℕ) (es : List Entry) (k : ℕ) (e : Entry) → AreBlocks ks es → k < length es → e.link / BLOCK_LINKS ≡ block_at es k
    → AreBlocks ks (set es k e)
blocks_set ks es k e laid lt is =
    let long = length-set es k e in
    record {
      each = λ q.
          elim (laid.each q) [
            | inl none ↦ inl (λ j within at. none j (omega arith) (sym (same_block es k j e lt is) ∙ at))
            | inr block ↦ inr (λ i less. let at = block i less in let there = at.0 in (omega arith, same_block es k (get_or ks q 0 + i) e lt is ∙ at.1))
          ];
    }

-- another entry of the same link
pub blocks_stay : (ks starts : List ℕ) (es entries : List Entry) (m k : ℕ) (e : Entry) → e.link ≡ m → starts ≡ ks → entries ≡ es
    → StandsAt starts entries m k → AreBlocks ks es → AreBlocks ks (set es k e)
blocks_stay ks starts es entries m k e named a b h laid =
    let g : StandsAt starts es m k = subst (λ (xs : List Entry). StandsAt starts xs m k) b h in
    blocks_set ks es k e laid g.within (ap (λ (l : ℕ). l / BLOCK_LINKS) (named ∙ sym g.link))

-- the entry of link l, in its block
pub filled : (ks : List ℕ) (es : List Entry) (l k : ℕ) (e : Entry) (m : ℕ) → e.link ≡ l → HasItsBlock ks es l k
    → entry_in (rows_of ks (set es k e)) m ≡ (if m == l then Some e else entry_in (rows_of ks es) m)
unfolding entry_in
filled ks es l k e m named h =
    elim (cases_Bool (m == l)) [
      | inl q ↦
          let s : m ≡ l = eqb-true m l q in
          let own : (e.link == m) ≡ true = eq-eqb e.link m (named ∙ sym s) in
          rw q (ap (entry_at (set es k e) m) (ap (entry_number ks) s ∙ h.number) ∙ entry_own es e m k h.within ∙ rw own refl)
      | inr q ↦
          let a : (e.link == m) ≡ false = ne_eqb e.link m (λ (z : e.link ≡ m). eqb-false m l q (sym z ∙ named)) in
          rw q (elim (cases_Bool ((get_or es k no_entry).link == m)) [
            | inl own ↦
                let is : (get_or es k no_entry).link ≡ m = eqb-true (get_or es k no_entry).link m own in
                let block : m / BLOCK_LINKS ≡ l / BLOCK_LINKS = sym (ap (λ (n : ℕ). n / BLOCK_LINKS) is) ∙ h.block in
                let start : get_or ks (m / BLOCK_LINKS) 0 ≡ get_or ks (l / BLOCK_LINKS) 0 = ap (λ (b : ℕ). get_or ks b 0) block in
                let other : m ≢ l = eqb-false m l q in
                let there = h.number in
                entry_elsewhere es e m k (entry_number ks m) (λ (z : entry_number ks m ≡ k). other (omega arith))
            | inr b ↦ entry_kept es e m k (entry_number ks m) a b
          ])
    ]

-- AS CALLS FIND IT
its_block : (ks starts : List ℕ) (es entries : List Entry) (m k : ℕ) → starts ≡ ks → entries ≡ es → HasItsBlock starts entries m k → HasItsBlock ks es m k
its_block ks starts es entries m k a b h =
    subst (λ (ls : List ℕ). HasItsBlock ls es m k) a (subst (λ (xs : List Entry). HasItsBlock starts xs m k) b h)

pub blocks_filled : (ks starts : List ℕ) (es entries : List Entry) (m k : ℕ) (e : Entry) → e.link ≡ m → starts ≡ ks → entries ≡ es
    → HasItsBlock starts entries m k → AreBlocks ks es → AreBlocks ks (set es k e)
blocks_filled ks starts es entries m k e named a b h laid =
    let g = its_block ks starts es entries m k a b h in
    blocks_set ks es k e laid g.within (ap (λ (l : ℕ). l / BLOCK_LINKS) named ∙ sym g.block)

pub filled_there : (ks starts : List ℕ) (es entries : List Entry) (l k : ℕ) (e : Entry) (m : ℕ) → e.link ≡ l → starts ≡ ks → entries ≡ es
    → HasItsBlock starts entries l k → entry_in (rows_of ks (set es k e)) m ≡ (if m == l then Some e else entry_in (rows_of ks es) m)
filled_there ks starts es entries l k e m named a b h = filled ks es l k e m named (its_block ks starts es entries l k a b h)

pub no_block : (ks starts : List ℕ) (es entries : List Entry) (m : ℕ) → starts ≡ ks → entries ≡ es → HasNoBlock starts entries m → HasNoBlock ks es m
no_block ks starts es entries m a b h = subst (λ (ls : List ℕ). HasNoBlock ls es m) a (subst (λ (xs : List Entry). HasNoBlock starts xs m) b h)

-- THE SAME BEGINNINGS
pub same_entries : (ks ls : List ℕ) (es : List Entry) (m : ℕ) → ((q : ℕ) → get_or ls q 0 ≡ get_or ks q 0)
    → entry_in (rows_of ls es) m ≡ entry_in (rows_of ks es) m
unfolding entry_in
same_entries ks ls es m same = ap (λ (s : ℕ). entry_at es m (s + m % BLOCK_LINKS)) (same (m / BLOCK_LINKS))

pub same_blocks : (ks ls : List ℕ) (es : List Entry) → ((q : ℕ) → get_or ls q 0 ≡ get_or ks q 0) → AreBlocks ks es → AreBlocks ls es
same_blocks ks ls es same laid =
    record {
      each = λ q.
          elim (laid.each q) [ inl none ↦ inl none | inr block ↦ inr (subst (λ (s : ℕ). IsBlock es q s) (sym (same q)) block) ];
    }

-- A BLOCK MORE
abbrev pub BeginsAt : ℕ → ℕ → List ℕ → List ℕ → Type 0
BeginsAt q n old new = (r : ℕ) → get_or new r 0 ≡ (if r == q then n else get_or old r 0)

begins : (q n m : ℕ) (ks ls : List ℕ) → BeginsAt q n ks ls → m / BLOCK_LINKS ≡ q → entry_number ls m ≡ n + m % BLOCK_LINKS
begins q n m ks ls is block =
    let own : (m / BLOCK_LINKS == q) ≡ true = eq-eqb (m / BLOCK_LINKS) q block in
    ap (λ (s : ℕ). s + m % BLOCK_LINKS) (is (m / BLOCK_LINKS) ∙ rw own refl)

begins_elsewhere : (q n r : ℕ) (ks ls : List ℕ) → BeginsAt q n ks ls → r ≢ q → get_or ls r 0 ≡ get_or ks r 0
begins_elsewhere q n r ks ls is other = let e : (r == q) ≡ false = ne_eqb r q other in is r ∙ rw e refl

-- where a block begins is nothing to links while none of its entries is there
pub put_only : (ks ls : List ℕ) (es : List Entry) (q n m : ℕ) → HasNone es q → BeginsAt q n ks ls
    → entry_in (rows_of ls es) m ≡ entry_in (rows_of ks es) m
unfolding entry_in
put_only ks ls es q n m none is =
    elim (cases_Bool (m / BLOCK_LINKS == q)) [
      | inl b ↦
          let block : m / BLOCK_LINKS ≡ q = eqb-true (m / BLOCK_LINKS) q b in
          let nobody : HasNone es (m / BLOCK_LINKS) = subst (λ (r : ℕ). HasNone es r) (sym block) none in
          none_of_block ls es m nobody ∙ sym (none_of_block ks es m nobody)
      | inr b ↦
          ap (λ (s : ℕ). entry_at es m (s + m % BLOCK_LINKS))
          (begins_elsewhere q n (m / BLOCK_LINKS) ks ls is (eqb-false (m / BLOCK_LINKS) q b))
    ]

pub added : (ks ls : List ℕ) (es : List Entry) (e : Entry) (m : ℕ) → HasNone es (e.link / BLOCK_LINKS)
    → BeginsAt (e.link / BLOCK_LINKS) (length es) ks ls
    → entry_in (rows_of ls (es ++ replicate BLOCK_LINKS e)) m ≡ (if m == e.link then Some e else entry_in (rows_of ks es) m)
unfolding entry_in
added ks ls es e m none is =
    let q : ℕ = e.link / BLOCK_LINKS in
    let new : List Entry = es ++ replicate BLOCK_LINKS e in
    elim (cases_Bool (m == e.link)) [
      | inl same ↦
          let s : m ≡ e.link = eqb-true m e.link same in
          let own : (e.link == m) ≡ true = eq-eqb e.link m (sym s) in
          rw same
          (ap (entry_at new m) (begins q (length es) m ks ls is (ap (λ (l : ℕ). l / BLOCK_LINKS) s))
          ∙ entry_behind es (replicate BLOCK_LINKS e) m (m % BLOCK_LINKS)
          ∙ entry_own_copy BLOCK_LINKS e m (m % BLOCK_LINKS) (omega arith) own)
      | inr other ↦
          let ne : (e.link == m) ≡ false = ne_eqb e.link m (λ (z : e.link ≡ m). eqb-false m e.link other (sym z)) in
          rw other
          (elim (cases_Bool (m / BLOCK_LINKS == q)) [
            | inl b ↦
                let block : m / BLOCK_LINKS ≡ q = eqb-true (m / BLOCK_LINKS) q b in
                let nobody : HasNone es (m / BLOCK_LINKS) = subst (λ (r : ℕ). HasNone es r) (sym block) none in
                ap (entry_at new m) (begins q (length es) m ks ls is block)
                ∙ entry_behind es (replicate BLOCK_LINKS e) m (m % BLOCK_LINKS)
                ∙ entry_of_others BLOCK_LINKS e m (m % BLOCK_LINKS) ne
                ∙ sym (none_of_block ks es m nobody)
            | inr b ↦
                let p : ℕ = entry_number ks m in
                let same : entry_number ls m ≡ p
                = ap (λ (s : ℕ). s + m % BLOCK_LINKS) (begins_elsewhere q (length es) (m / BLOCK_LINKS) ks ls is (eqb-false (m / BLOCK_LINKS) q b)) in
                ap (entry_at new m) same
                ∙ elim (cases_lt p (length es)) [
                  | inl lt ↦ entry_short es (replicate BLOCK_LINKS e) m p lt
                  | inr ge ↦
                      let split : p ≡ length es + (p - length es) = omega arith in
                      ap (entry_at new m) split ∙ entry_behind es (replicate BLOCK_LINKS e) m (p - length es)
                      ∙ entry_of_others BLOCK_LINKS e m (p - length es) ne ∙ sym (entry_past es m p ge)
                ]
          ])
    ]

pub blocks_put : (ks ls : List ℕ) (es : List Entry) (q n : ℕ) → AreBlocks ks es → HasNone es q → BeginsAt q n ks ls → AreBlocks ls es
blocks_put ks ls es q n laid none is =
    record {
      each = λ r.
          elim (cases_Bool (r == q)) [
            | inl b ↦ inl (subst (λ (x : ℕ). HasNone es x) (sym (eqb-true r q b)) none)
            | inr b ↦
                let same = begins_elsewhere q n r ks ls is (eqb-false r q b) in
                elim (laid.each r) [
                  | inl nobody ↦ inl nobody
                  | inr block ↦ inr (subst (λ (s : ℕ). IsBlock es r s) (sym same) block)
                ]
          ];
    }

pub blocks_more : (ks ls : List ℕ) (es : List Entry) (e : Entry) → AreBlocks ks es → HasNone es (e.link / BLOCK_LINKS)
    → BeginsAt (e.link / BLOCK_LINKS) (length es) ks ls → AreBlocks ls (es ++ replicate BLOCK_LINKS e)
blocks_more ks ls es e laid none is =
    let q : ℕ = e.link / BLOCK_LINKS in
    let ds : List Entry = replicate BLOCK_LINKS e in
    let long = length-append es ds in
    let many = length-replicate BLOCK_LINKS e in
    let all : length (es ++ ds) ≡ length es + BLOCK_LINKS = long ∙ ap (λ (n : ℕ). length es + n) many in
    record {
      each = λ r.
          elim (cases_Bool (r == q)) [
            | inl b ↦
                let own : r ≡ q = eqb-true r q b in
                let start : get_or ls r 0 ≡ length es = is r ∙ rw b refl in
                inr (subst (λ (s : ℕ). IsBlock (es ++ ds) r s) (sym start) (λ k less. (
                  omega arith,
                  ap (λ (d : Entry). d.link / BLOCK_LINKS) (read_behind es BLOCK_LINKS e k less) ∙ sym own,
                )))
            | inr b ↦
                let other : r ≢ q = eqb-false r q b in
                elim (laid.each r) [
                  | inl nobody ↦
                      inl (λ j within at.
                      elim (cases_lt j (length es)) [
                        | inl lt ↦ nobody j lt (sym (ap (λ (d : Entry). d.link / BLOCK_LINKS) (get_or_append_left es ds no_entry j lt)) ∙ at)
                        | inr ge ↦
                            let split : j ≡ length es + (j - length es) = omega arith in
                            let his : block_at (es ++ ds) j ≡ q
                            = ap (block_at (es ++ ds)) split ∙ ap (λ (d : Entry). d.link / BLOCK_LINKS) (read_behind es BLOCK_LINKS e (j - length es) (omega arith)) in
                            other (sym at ∙ his)
                      ])
                  | inr block ↦
                      inr (subst (λ (s : ℕ). IsBlock (es ++ ds) r s) (sym (begins_elsewhere q (length es) r ks ls is other)) (λ k less.
                      let at = block k less in
                      let there = at.0 in (
                        omega arith,
                        ap (λ (d : Entry). d.link / BLOCK_LINKS) (get_or_append_left es ds no_entry (get_or ks r 0 + k) there) ∙ at.1,
                      )))
                ]
          ];
    }

-- THE START
pub no_blocks : (ks : List ℕ) → AreBlocks ks []
no_blocks ks = record { each = λ q. inl (λ j lt at. absurd (omega arith)) }
