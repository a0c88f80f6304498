-- What is kept by the world and by all that was told so far: by induction over the moves of seconds.
use Rattle.traffic.proofs.Common.{◌≡◌, ℕ, zero, suc, List, ◌∙◌, ap, refl, sym, subst, [], ◌∷◌, ◌++◌, ◌+◌, append_assoc, append-nil, map, map-append, flat_map, Phase}
use Rattle.traffic.proofs.Common.{phase_code, keyed, events_in, told_in, turns, turns_in, turns_of, second, events_from, world_from, world_start, world_at}
use Rattle.traffic.proofs.Common.{run, done, told, moves_of, after, below, count_of, phases, World, Setup, flat_map-append}
use Rattle.traffic.proofs.{Moments.Along}
use Rattle.traffic.specs.declared.{moves.Move.Move, moves.Occurrence.Occurrence}
use Rattle.std.proofs.Common.{add-suc, add-zero}
use Rattle.law_capacity.{proofs.Turns.through_moves, specs.Moves.moves_in, specs.Moves.second_moves}
use Rattle.law_journeys.specs.News.{News, news, news_of, events_in_seconds}

-- NEWS OF MOVES
abbrev pub at_time : ℕ → Occurrence → News
at_time t x = record { second = t; what = x }

abbrev pub spoken : ℕ → Move → List News
spoken t m = map (at_time t) (told m)

abbrev pub spoken_all : ℕ → List Move → List News
spoken_all t ms = flat_map (spoken t) ms

pub keyed_news : (t code n k : ℕ) (xs : List Occurrence) → news (keyed t code n k xs) ≡ map (at_time t) xs
unfolding keyed
keyed_news t code n k [] = refl
keyed_news t code n k (x ∷ xs) = ap (λ ys. at_time t x ∷ ys) (keyed_news t code n (k + 1) xs)

told_all : (t : ℕ) (ms : List Move) → map (at_time t) (flat_map told ms) ≡ spoken_all t ms
told_all t [] = refl
told_all t (m ∷ ms) = map-append (at_time t) (told m) (flat_map told ms) ∙ ap (λ ys. spoken t m ++ ys) (told_all t ms)

turns_news : (S : Setup) (t : ℕ) (p : Phase) (ns : List ℕ) (W : World) → news (events_in t p (turns S t (turns_of S t p) ns W)) ≡ spoken_all t (moves_of (turns S t (turns_of S t p) ns W))
unfolding turns
turns_news S t p [] W = refl
turns_news S t p (n ∷ ns) W =
    let ms = turns_of S t p n W in
    let us = turns S t (turns_of S t p) ns (run S t ms W) in
    map-append news_of (keyed t (phase_code p) n 0 (flat_map told ms)) (events_in t p us)
    ∙ ap (λ xs. xs ++ news (events_in t p us)) (keyed_news t (phase_code p) n 0 (flat_map told ms) ∙ told_all t ms)
    ∙ ap (λ xs. spoken_all t ms ++ xs) (turns_news S t p ns (run S t ms W))
    ∙ sym (flat_map-append (spoken t) ms (moves_of us))

told_news : (S : Setup) (t : ℕ) (ps : List Phase) (W : World) → news (told_in S t ps W) ≡ spoken_all t (moves_in S t ps W)
unfolding told_in moves_in turns_in
told_news S t [] W = refl
told_news S t (p ∷ ps) W =
    let us = turns_in S t p W in
    map-append news_of (events_in t p us) (told_in S t ps (after S t us W))
    ∙ ap (λ xs. xs ++ news (told_in S t ps (after S t us W))) (turns_news S t p (below (count_of S p)) W)
    ∙ ap (λ xs. spoken_all t (moves_of us) ++ xs) (told_news S t ps (after S t us W))
    ∙ sym (flat_map-append (spoken t) (moves_of us) (moves_in S t ps (after S t us W)))

-- INDUCTION
-- a move keeps what holds of all that was told before it and of the world
abbrev pub KeepsHistory : (List News → World → Type 0) → Setup → ℕ → World → Move → Type 0
KeepsHistory J S t W m = (hs : List News) → J hs W → J (hs ++ spoken t m) (done S t m W)

moves_keep : (J : List News → World → Type 0) (S : Setup) (t : ℕ) (ms : List Move) (W : World) (hs : List News) → Along (KeepsHistory J S t) S t ms W → J hs W → J (hs ++ spoken_all t ms) (run S t ms W)
moves_keep J S t [] W hs h j = subst (λ (xs : List News). J xs W) (sym (append-nil hs)) j
moves_keep J S t (m ∷ ms) W hs h j =
    subst (λ (xs : List News). J xs (run S t ms (done S t m W))) (append_assoc hs (spoken t m) (spoken_all t ms)) (moves_keep J S t ms (done S t m W) (hs ++ spoken t m) h.1 (h.0 hs j))

second_keeps : (J : List News → World → Type 0) (S : Setup) (t : ℕ) (W : World) (hs : List News) → Along (KeepsHistory J S t) S t (second_moves S t W) W → J hs W → J (hs ++ news (told_in S t phases W)) (second S t W)
second_keeps J S t W hs h j =
    subst (λ (xs : List News). J (hs ++ xs) (second S t W)) (sym (told_news S t phases W))
    (subst (λ (V : World). J (hs ++ spoken_all t (second_moves S t W)) V) (sym (through_moves S t phases W)) (moves_keep J S t (second_moves S t W) W hs h j))

-- so a day, second by second
pub day_by_moves : (J : ℕ → List News → World → Type 0) (S : Setup) → J zero [] (world_start S)
    → ((t : ℕ) (hs : List News) → J t hs (world_at S t) → J (suc t) (hs ++ spoken_all t (second_moves S t (world_at S t))) (run S t (second_moves S t (world_at S t)) (world_at S t)))
    → (t : ℕ) → J t (news (events_from S (world_start S) t)) (world_at S t)
unfolding events_from world_from
day_by_moves J S start step zero = start
day_by_moves J S start step (suc t) =
    let es = events_from S (world_start S) t in
    let W = world_at S t in
    subst (λ (xs : List News). J (suc t) xs (second S t W)) (sym (map-append news_of es (told_in S t phases W)))
    (subst (λ (xs : List News). J (suc t) (news es ++ xs) (second S t W)) (sym (told_news S t phases W))
    (subst (λ (V : World). J (suc t) (news es ++ spoken_all t (second_moves S t W)) V) (sym (through_moves S t phases W)) (step t (news es) (day_by_moves J S start step t))))

-- a move keeps what holds of all that was told before it, of the world, and of the moves that are still to come
abbrev pub KeepsRest : (List News → World → List Move → Type 0) → Setup → ℕ → World → Move → Type 0
KeepsRest J S t W m = (hs : List News) (ms : List Move) → J hs W (m ∷ ms) → J (hs ++ spoken t m) (done S t m W) ms

pub rest_kept : (J : List News → World → List Move → Type 0) (S : Setup) (t : ℕ) (ms : List Move) (W : World) (hs : List News) → Along (KeepsRest J S t) S t ms W → J hs W ms → J (hs ++ spoken_all t ms) (run S t ms W) []
rest_kept J S t [] W hs h j = subst (λ (xs : List News). J xs W []) (sym (append-nil hs)) j
rest_kept J S t (m ∷ ms) W hs h j =
    subst (λ (xs : List News). J xs (run S t ms (done S t m W)) []) (append_assoc hs (spoken t m) (spoken_all t ms)) (rest_kept J S t ms (done S t m W) (hs ++ spoken t m) h.1 (h.0 hs ms j))

-- J n holds of what is told in the first n seconds, and of the world after them: J t is J (t + 1) when second t begins, and each of its moves
-- keeps this
pub record IsKept (J : ℕ → List News → World → Type 0) (S : Setup) : Type 0 where
  pub begins : (t : ℕ) (hs : List News) (W : World) → J t hs W → J (suc t) hs W
  pub moves : (t : ℕ) → Along (KeepsHistory (J (suc t)) S t) S t (second_moves S t (world_at S t)) (world_at S t)

-- from the start of the day on
pub day_keeps : (J : ℕ → List News → World → Type 0) (S : Setup) → IsKept J S → J zero [] (world_start S) → (t : ℕ) → J t (news (events_from S (world_start S) t)) (world_at S t)
unfolding events_from world_from
day_keeps J S kept j zero = j
day_keeps J S kept j (suc t) =
    let es = events_from S (world_start S) t in
    let W = world_at S t in
    subst (λ (xs : List News). J (suc t) xs (second S t W)) (sym (map-append news_of es (told_in S t phases W)))
    (second_keeps (J (suc t)) S t W (news es) (kept.moves t) (kept.begins t (news es) W (day_keeps J S kept j t)))

-- from any second on
pub seconds_keep : (J : ℕ → List News → World → Type 0) (S : Setup) → IsKept J S → (t n : ℕ) → J t [] (world_at S t) → J (t + n) (news (events_in_seconds S t n)) (world_at S (t + n))
unfolding events_in_seconds world_from
seconds_keep J S kept t zero j = subst (λ (u : ℕ). J u [] (world_at S u)) (sym (add-zero t)) j
seconds_keep J S kept t (suc n) j =
    let es = events_in_seconds S t n in
    let u = t + n in
    let W = world_at S u in
    subst (λ (v : ℕ). J v (news (es ++ told_in S u phases W)) (world_at S v)) (sym (add-suc t n))
    (subst (λ (xs : List News). J (suc u) xs (second S u W)) (sym (map-append news_of es (told_in S u phases W)))
    (second_keeps (J (suc u)) S u W (news es) (kept.moves u) (kept.begins u (news es) W (seconds_keep J S kept t n j))))
