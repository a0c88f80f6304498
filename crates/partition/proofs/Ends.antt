-- The tables of a day, from empty ones.
use Rattle.std.proofs.Common.{◌≡◌, ℕ, ◌<◌, Bool, false, List, sym, ◌∙◌, ap, subst, arith, replicate, length, take, drop, ◌++◌}
use Rattle.std.proofs.lemmas.List.{get_or-replicate, length-replicate}
use Rattle.std.specs.{List.list_any, List.flat_map, Prelude.not, Prelude.◌==◌, Prelude.◌&&◌, Prelude.◌||◌}
use Rattle.rows.specs.declared.network.LinkRow.{LinkRow}
use Rattle.town.specs.{Views.setup, Views.chosen_in, declared.day_input.DayInput.DayInput}
use Rattle.parts.specs.Owners.{Owner, longest_lag}
use Rattle.partition.proofs.{Crossed.near_is, Crossed.lag_is, Dealt.written_back}
use Rattle.partition.specs.Neighbours.{AreJoined, AreNear, AreShorter, AreLags, joined_in, lag_in, place_of, is_over, is_hop_over, hops_in, shortest, hole_at}
use Rattle.partition.specs.Neighbours.{seconds_of_hop, leads_over, hop_leads_over}
use Rattle.travel_times.specs.Times.{free_of}

or_steps : (a b c : Bool) → a ≡ false → ((a || b) || c) ≡ (b || c)
or_steps a b c e = ap (λ z. (z || b) || c) e

pub near_from : (day : DayInput) (own : Owner) (empty mid table : List Bool) → ((p q : ℕ) → p < 64 → q < 64 → joined_in empty p q ≡ false)
    → AreJoined (λ p q. list_any (is_over own p q) day.town.now.network.links) empty mid
    → AreJoined (λ p q. list_any (is_hop_over own day.town.now.network.links p q) (flat_map hops_in (chosen_in day))) mid table → AreNear (setup day) own table
near_from day own empty mid table none links hops p q lp lq =
    let A = list_any (is_over own p q) day.town.now.network.links in
    let B = list_any (is_hop_over own day.town.now.network.links p q) (flat_map hops_in (chosen_in day)) in
    let all : joined_in table p q ≡ (A || B) = hops p q lp lq ∙ ap (λ z. z || B) (links p q lp lq) ∙ or_steps (joined_in empty p q) A B (none p q lp lq) in
    near_is day own p q ∙ ap (λ z. not (p == q) && z) (sym all)

pub lags_from : (day : DayInput) (own : Owner) (empty mid table : List ℕ) → ((p q : ℕ) → p < 64 → q < 64 → lag_in empty p q ≡ longest_lag)
    → AreShorter (λ p q n. shortest seconds_of_hop (hop_leads_over own day.town.now.network.links p q) (flat_map hops_in (chosen_in day)) n) empty mid
    → AreShorter (λ p q n. shortest free_of (leads_over own p q) day.town.now.network.links (shortest (hole_at day.town.now.settings.hole_speed) (leads_over own q p) day.town.now.network.links n)) mid table
    → AreLags (setup day) own table
lags_from day own empty mid table none hops links p q lp lq =
    let L = day.town.now.network.links in
    let H = flat_map hops_in (chosen_in day) in
    links p q lp lq
    ∙ ap (λ n. shortest free_of (leads_over own p q) L (shortest (hole_at day.town.now.settings.hole_speed) (leads_over own q p) L n)) (hops p q lp lq ∙ ap (shortest seconds_of_hop (hop_leads_over own L p q) H) (none p q lp lq))
    ∙ sym (lag_is day own p q)

pub no_pair_joined : (empty : List Bool) → empty ≡ replicate 4096 false → (p q : ℕ) → p < 64 → q < 64 → joined_in empty p q ≡ false
no_pair_joined empty e p q lp lq = ap (λ t. joined_in t p q) e ∙ get_or-replicate 4096 (place_of p q) false false (omega arith)

pub longest_lags : (empty : List ℕ) → empty ≡ replicate 4096 32 → (p q : ℕ) → p < 64 → q < 64 → lag_in empty p q ≡ longest_lag
longest_lags empty e p q lp lq = ap (λ t. lag_in t p q) e ∙ get_or-replicate 4096 (place_of p q) 32 0 (omega arith)

-- what two calls in turn leave in a vector
abbrev pub left_by : {Y : Type 0} → List Y → List Y → ℕ → List Y
left_by xs old long = take long (xs ++ drop (length xs) old)

abbrev HopLags : DayInput → Owner → List ℕ → List ℕ → Type 0
HopLags day own old new = AreShorter (λ p q n. shortest seconds_of_hop (hop_leads_over own day.town.now.network.links p q) (flat_map hops_in (chosen_in day)) n) old new

abbrev LinkLags : DayInput → Owner → List LinkRow → List ℕ → List ℕ → Type 0
LinkLags day own links old new =
    AreShorter (λ p q n. shortest free_of (leads_over own p q) links (shortest (hole_at day.town.now.settings.hole_speed) (leads_over own q p) links n)) old new

pub lag_table : (day : DayInput) (own : Owner) (links : List LinkRow) (items a b one two : List ℕ) (long : ℕ) → items ≡ replicate 4096 32 → long ≡ 4096 → links ≡ day.town.now.network.links
    → one ≡ items → length a ≡ length one → two ≡ left_by a items long → length b ≡ length two → HopLags day own one a → LinkLags day own links two b
    → (length (left_by b (left_by a items long) long) ≡ 4096) × AreLags (setup day) own (left_by b (left_by a items long) long)
lag_table day own links items a b one two long e l rows f la g lb hops over =
    let items_long : length items ≡ 4096 = ap length e ∙ length-replicate {A = ℕ} 4096 32 in
    let a_long : length a ≡ 4096 = la ∙ ap length f ∙ items_long in
    let first : left_by a items long ≡ a = written_back a items long (l ∙ sym a_long) in
    let b_long : length b ≡ 4096 = lb ∙ ap length (g ∙ first) ∙ a_long in
    let second : left_by b (left_by a items long) long ≡ b = written_back b (left_by a items long) long (l ∙ sym b_long) in
    let all : AreLags (setup day) own b =
    lags_from day own items a b (longest_lags items e) (subst (λ xs. HopLags day own xs a) f hops) (subst (λ xs. LinkLags day own xs a b) rows (subst (λ xs. LinkLags day own links xs b) (g ∙ first) over)) in
    (ap length second ∙ b_long, subst (λ xs. AreLags (setup day) own xs) (sym second) all)

abbrev LinksJoin : Owner → List LinkRow → List Bool → List Bool → Type 0
LinksJoin own links old new = AreJoined (λ p q. list_any (is_over own p q) links) old new

abbrev HopsJoin : DayInput → Owner → List Bool → List Bool → Type 0
HopsJoin day own old new = AreJoined (λ p q. list_any (is_hop_over own day.town.now.network.links p q) (flat_map hops_in (chosen_in day))) old new

pub joined_table : (day : DayInput) (own : Owner) (links : List LinkRow) (items a b one two : List Bool) (long : ℕ) → items ≡ replicate 4096 false → long ≡ 4096 → links ≡ day.town.now.network.links
    → one ≡ items → length a ≡ length one → two ≡ left_by a items long → length b ≡ length two → LinksJoin own links one a → HopsJoin day own two b
    → (length (left_by b (left_by a items long) long) ≡ 4096) × AreNear (setup day) own (left_by b (left_by a items long) long)
joined_table day own links items a b one two long e l rows f la g lb over hops =
    let items_long : length items ≡ 4096 = ap length e ∙ length-replicate {A = Bool} 4096 false in
    let a_long : length a ≡ 4096 = la ∙ ap length f ∙ items_long in
    let first : left_by a items long ≡ a = written_back a items long (l ∙ sym a_long) in
    let b_long : length b ≡ 4096 = lb ∙ ap length (g ∙ first) ∙ a_long in
    let second : left_by b (left_by a items long) long ≡ b = written_back b (left_by a items long) long (l ∙ sym b_long) in
    let all : AreNear (setup day) own b =
    near_from day own items a b (no_pair_joined items e) (subst (λ xs. LinksJoin own xs items a) rows (subst (λ xs. LinksJoin own links xs a) f over)) (subst (λ xs. HopsJoin day own xs b) (g ∙ first) hops) in
    (ap length second ∙ b_long, subst (λ xs. AreNear (setup day) own xs) (sym second) all)
