-- One front after the other hands over.
use Rattle.std.proofs.Common.{◌≡◌, ℕ, ◌+◌, Bool, true, false, List, [], ◌∷◌, ◌++◌, refl, ap, sym, ◌∙◌, subst, append-nil}
use Rattle.std.{proofs.lemmas.Bool.eq-eqb, specs.Prelude.not, specs.Prelude.Option, specs.Prelude.None, specs.Prelude.Some, specs.Prelude.drop}
use Rattle.events.specs.declared.event.{More.TheVariants.Nothing, Word.TheVariants.LeftLink, Word.TheVariants.EnteredLink}
use Rattle.rows.specs.declared.settings.Stuck.{Stuck}
use Rattle.traffic.specs.declared.{stage.Stage.TheVariants.Buffer, moves.Move.Move, moves.Move.TheVariants.Transfer, moves.Move.TheVariants.Remove}
use Rattle.traffic.specs.declared.{moves.Move.TheVariants.SetFrontSince, moves.Occurrence.Occurrence, node_views.OutLink.OutLink, world.Row.Row}
use Rattle.traffic.specs.{Vehicles.VehicleState, Lists.on_front, Moves.at_second, Moves.at_after, Telling.of_vehicle, Telling.aborts}
use Rattle.traffic.specs.Nodes.{next_link, has_room, is_stuck, may_enter, entered, one_more, pass_node, pass_node_all, since_of, HaveNext}
use Rattle.queue_link.specs.Links.{LinkView, behind_front, first_row}
use Rattle.node_move.proofs.Runs.{with_buffer, same_state, run_none, run_both}
use Rattle.node_move.specs.{NodeStates.NodeState, NodeStates.node_state, NodeStates.node_run, NodeStates.in_link_of, declared.crossings.Entering.Entering}

-- the link once its front has left in second t
abbrev pub left_front : ℕ → LinkView → LinkView
left_front t v = with_buffer v (behind_front t v.lists.buffer)

-- those behind are seen as they stand with the mark of the new front
marked_alike : (K : Stuck) (t l : ℕ) (P : ℕ → Option OutLink) (rs : List Row)
    → pass_node K t l P t rs ≡ pass_node K t l P (since_of (on_front (at_second t) rs)) (on_front (at_second t) rs)
unfolding pass_node
marked_alike K t l P [] = refl
marked_alike K t l P (r ∷ rs) = refl

-- WHO ENTERS
abbrev pub goes_to : (ℕ → Option OutLink) → Row → Entering
goes_to P r =
    record { link = next_link r.vehicle; vehicle = record r.vehicle { place = r.vehicle.place + 1; pushed = not (has_room (P (next_link r.vehicle))) } }

abbrev pub crosses : Row → List Occurrence
crosses r = of_vehicle LeftLink r.vehicle.id r.link Nothing ∷ of_vehicle EnteredLink r.vehicle.id (next_link r.vehicle) Nothing ∷ []

entering_moves : (K : Stuck) (t l : ℕ) (P : ℕ → Option OutLink) (r : Row) (rs : List Row) → may_enter K t r.second (P (next_link r.vehicle)) ≡ true
    → pass_node K t l P r.second (r ∷ rs)
    ≡ Transfer l Buffer 0 (at_second r.second r) (entered t (P (next_link r.vehicle)) r.vehicle) ∷ SetFrontSince l t
    ∷ pass_node K t l (one_more (next_link r.vehicle) P) t rs
unfolding pass_node
entering_moves K t l P r rs h = rw h refl

entering_buffer : (t l : ℕ) (P : ℕ → Option OutLink) (r : Row) (rs : List Row)
    → at_after l Buffer (SetFrontSince l t) (at_after l Buffer (Transfer l Buffer 0 (at_second r.second r) (entered t (P (next_link r.vehicle)) r.vehicle)) (r ∷ rs))
    ≡ on_front (at_second t) rs
entering_buffer t l P r rs =
    let e = eq-eqb l l refl in
    let o : at_after l Buffer (Transfer l Buffer 0 (at_second r.second r) (entered t (P (next_link r.vehicle)) r.vehicle)) (r ∷ rs) ≡ rs
    = rw e (append-nil rs) in
    let m : at_after l Buffer (SetFrontSince l t) rs ≡ on_front (at_second t) rs = rw e refl in
    ap (at_after l Buffer (SetFrontSince l t)) o ∙ m

entering_state : (t : ℕ) (v : LinkView) (P : ℕ → Option OutLink) (r : Row) (rs : List Row) (es : List Entering) (gone : List VehicleState) (said : List Occurrence)
    → node_run (Transfer v.numbers.link Buffer 0 (at_second r.second r) (entered t (P (next_link r.vehicle)) r.vehicle) ∷ SetFrontSince v.numbers.link t ∷ [])
    (node_state (with_buffer v (r ∷ rs) ∷ []) P es gone said)
    ≡ node_state (with_buffer v (on_front (at_second t) rs) ∷ []) (one_more (next_link r.vehicle) P) (es ++ goes_to P r ∷ []) gone (said ++ crosses r)
entering_state t v P r rs es gone said =
    same_state _ _ _ _ _ _ _ _ _ _
    (ap (λ (rows : List Row). with_buffer v rows ∷ []) (entering_buffer t v.numbers.link P r rs)) refl refl (append-nil gone) refl

front_enters_at : (K : Stuck) (t : ℕ) (v : LinkView) (P : ℕ → Option OutLink) (r : Row) (rs : List Row) (es : List Entering) (gone : List VehicleState) (said : List Occurrence)
    → may_enter K t r.second (P (next_link r.vehicle)) ≡ true
    → node_run (pass_node_all K t P (in_link_of (with_buffer v (r ∷ rs)) true)) (node_state (with_buffer v (r ∷ rs) ∷ []) P es gone said)
    ≡ node_run (pass_node_all K t (one_more (next_link r.vehicle) P) (in_link_of (left_front t (with_buffer v (r ∷ rs))) true))
    (node_state (left_front t (with_buffer v (r ∷ rs)) ∷ []) (one_more (next_link r.vehicle) P) (es ++ goes_to P r ∷ []) gone (said ++ crosses r))
front_enters_at K t v P r rs es gone said h =
    let l = v.numbers.link in
    let Q = one_more (next_link r.vehicle) P in
    let T = Transfer l Buffer 0 (at_second r.second r) (entered t (P (next_link r.vehicle)) r.vehicle) in
    let N = node_state (with_buffer v (r ∷ rs) ∷ []) P es gone said in
    let M = node_state (with_buffer v (on_front (at_second t) rs) ∷ []) Q (es ++ goes_to P r ∷ []) gone (said ++ crosses r) in
    ap (λ (ms : List Move). node_run ms N) (entering_moves K t l P r rs h)
    ∙ run_both (T ∷ SetFrontSince l t ∷ []) (pass_node K t l Q t rs) N
    ∙ ap (node_run (pass_node K t l Q t rs)) (entering_state t v P r rs es gone said)
    ∙ ap (λ (ms : List Move). node_run ms M) (marked_alike K t l Q rs)

-- the link has its front first
is_with : (v : LinkView) (rows : List Row) → v.lists.buffer ≡ rows → v ≡ with_buffer v rows
is_with v rows e = ap (with_buffer v) e

first_of : (rows : List Row) (r : Row) → first_row rows ≡ Some r → rows ≡ r ∷ drop 1 rows
first_of [] r e = absurd (cc)
first_of (x ∷ rows) r e = let f : x ≡ r = cc in ap (λ (y : Row). y ∷ rows) f

pub front_enters : (K : Stuck) (t : ℕ) (v : LinkView) (P : ℕ → Option OutLink) (r : Row) (es : List Entering) (gone : List VehicleState) (said : List Occurrence)
    → first_row v.lists.buffer ≡ Some r → may_enter K t r.second (P (next_link r.vehicle)) ≡ true
    → node_run (pass_node_all K t P (in_link_of v true)) (node_state (v ∷ []) P es gone said)
    ≡ node_run (pass_node_all K t (one_more (next_link r.vehicle) P) (in_link_of (left_front t v) true))
    (node_state (left_front t v ∷ []) (one_more (next_link r.vehicle) P) (es ++ goes_to P r ∷ []) gone (said ++ crosses r))
front_enters K t v P r es gone said f h =
    let Q = one_more (next_link r.vehicle) P in
    subst (λ (x : LinkView). node_run (pass_node_all K t P (in_link_of x true)) (node_state (x ∷ []) P es gone said)
    ≡ node_run (pass_node_all K t Q (in_link_of (left_front t x) true))
    (node_state (left_front t x ∷ []) Q (es ++ goes_to P r ∷ []) gone (said ++ crosses r)))
    (sym (is_with v (r ∷ drop 1 v.lists.buffer) (first_of v.lists.buffer r f)))
    (front_enters_at K t v P r (drop 1 v.lists.buffer) es gone said h)

-- WHO IS REMOVED
removing_moves : (K : Stuck) (t l : ℕ) (P : ℕ → Option OutLink) (r : Row) (rs : List Row) → may_enter K t r.second (P (next_link r.vehicle)) ≡ false
    → is_stuck K t r.second ≡ true
    → pass_node K t l P r.second (r ∷ rs) ≡ Remove l Buffer 0 (at_second r.second r) ∷ SetFrontSince l t ∷ pass_node K t l P t rs
unfolding pass_node
removing_moves K t l P r rs h g = rw (h, g) refl

removing_buffer : (t l : ℕ) (r : Row) (rs : List Row)
    → at_after l Buffer (SetFrontSince l t) (at_after l Buffer (Remove l Buffer 0 (at_second r.second r)) (r ∷ rs)) ≡ on_front (at_second t) rs
removing_buffer t l r rs =
    let e = eq-eqb l l refl in
    let o : at_after l Buffer (Remove l Buffer 0 (at_second r.second r)) (r ∷ rs) ≡ rs = rw e refl in
    let m : at_after l Buffer (SetFrontSince l t) rs ≡ on_front (at_second t) rs = rw e refl in
    ap (at_after l Buffer (SetFrontSince l t)) o ∙ m

removing_state : (t : ℕ) (v : LinkView) (P : ℕ → Option OutLink) (r : Row) (rs : List Row) (es : List Entering) (gone : List VehicleState) (said : List Occurrence)
    → node_run (Remove v.numbers.link Buffer 0 (at_second r.second r) ∷ SetFrontSince v.numbers.link t ∷ []) (node_state (with_buffer v (r ∷ rs) ∷ []) P es gone said)
    ≡ node_state (with_buffer v (on_front (at_second t) rs) ∷ []) P es (gone ++ r.vehicle ∷ []) (said ++ aborts r)
removing_state t v P r rs es gone said =
    same_state _ _ _ _ _ _ _ _ _ _
    (ap (λ (rows : List Row). with_buffer v rows ∷ []) (removing_buffer t v.numbers.link r rs)) refl (append-nil es) refl
    (ap (λ (xs : List Occurrence). said ++ xs) (append-nil (aborts r)))

front_removed_at : (K : Stuck) (t : ℕ) (v : LinkView) (P : ℕ → Option OutLink) (r : Row) (rs : List Row) (es : List Entering) (gone : List VehicleState) (said : List Occurrence)
    → may_enter K t r.second (P (next_link r.vehicle)) ≡ false → is_stuck K t r.second ≡ true
    → node_run (pass_node_all K t P (in_link_of (with_buffer v (r ∷ rs)) true)) (node_state (with_buffer v (r ∷ rs) ∷ []) P es gone said)
    ≡ node_run (pass_node_all K t P (in_link_of (left_front t (with_buffer v (r ∷ rs))) true))
    (node_state (left_front t (with_buffer v (r ∷ rs)) ∷ []) P es (gone ++ r.vehicle ∷ []) (said ++ aborts r))
front_removed_at K t v P r rs es gone said h g =
    let l = v.numbers.link in
    let N = node_state (with_buffer v (r ∷ rs) ∷ []) P es gone said in
    let M = node_state (with_buffer v (on_front (at_second t) rs) ∷ []) P es (gone ++ r.vehicle ∷ []) (said ++ aborts r) in
    ap (λ (ms : List Move). node_run ms N) (removing_moves K t l P r rs h g)
    ∙ run_both (Remove l Buffer 0 (at_second r.second r) ∷ SetFrontSince l t ∷ []) (pass_node K t l P t rs) N
    ∙ ap (node_run (pass_node K t l P t rs)) (removing_state t v P r rs es gone said)
    ∙ ap (λ (ms : List Move). node_run ms M) (marked_alike K t l P rs)

pub front_removed : (K : Stuck) (t : ℕ) (v : LinkView) (P : ℕ → Option OutLink) (r : Row) (es : List Entering) (gone : List VehicleState) (said : List Occurrence)
    → first_row v.lists.buffer ≡ Some r → may_enter K t r.second (P (next_link r.vehicle)) ≡ false → is_stuck K t r.second ≡ true
    → node_run (pass_node_all K t P (in_link_of v true)) (node_state (v ∷ []) P es gone said)
    ≡ node_run (pass_node_all K t P (in_link_of (left_front t v) true)) (node_state (left_front t v ∷ []) P es (gone ++ r.vehicle ∷ []) (said ++ aborts r))
front_removed K t v P r es gone said f h g =
    subst (λ (x : LinkView). node_run (pass_node_all K t P (in_link_of x true)) (node_state (x ∷ []) P es gone said)
    ≡ node_run (pass_node_all K t P (in_link_of (left_front t x) true)) (node_state (left_front t x ∷ []) P es (gone ++ r.vehicle ∷ []) (said ++ aborts r)))
    (sym (is_with v (r ∷ drop 1 v.lists.buffer) (first_of v.lists.buffer r f)))
    (front_removed_at K t v P r (drop 1 v.lists.buffer) es gone said h g)

-- WHO STAYS
staying_moves : (K : Stuck) (t l : ℕ) (P : ℕ → Option OutLink) (rows : List Row) (r : Row) → first_row rows ≡ Some r
    → may_enter K t r.second (P (next_link r.vehicle)) ≡ false → is_stuck K t r.second ≡ false → pass_node K t l P (since_of rows) rows ≡ []
unfolding pass_node
staying_moves K t l P [] r f h g = refl
staying_moves K t l P (x ∷ rows) r f h g =
    let e : r ≡ x = cc in
    let h2 : may_enter K t x.second (P (next_link x.vehicle)) ≡ false = subst (λ (y : Row). may_enter K t y.second (P (next_link y.vehicle)) ≡ false) e h in
    let g2 : is_stuck K t x.second ≡ false = subst (λ (y : Row). is_stuck K t y.second ≡ false) e g in
    rw (h2, g2) refl

pub front_stays : (K : Stuck) (t : ℕ) (v : LinkView) (P : ℕ → Option OutLink) (r : Row) (N : NodeState) → first_row v.lists.buffer ≡ Some r
    → may_enter K t r.second (P (next_link r.vehicle)) ≡ false → is_stuck K t r.second ≡ false
    → node_run (pass_node_all K t P (in_link_of v true)) N ≡ N
front_stays K t v P r N f h g =
    ap (λ (ms : List Move). node_run ms N) (staying_moves K t v.numbers.link P v.lists.buffer r f h g) ∙ run_none N

no_moves : (K : Stuck) (t l : ℕ) (P : ℕ → Option OutLink) (rows : List Row) → first_row rows ≡ None → pass_node K t l P (since_of rows) rows ≡ []
unfolding pass_node
no_moves K t l P [] f = refl
no_moves K t l P (x ∷ rows) f = absurd (cc)

pub no_front : (K : Stuck) (t : ℕ) (v : LinkView) (P : ℕ → Option OutLink) (N : NodeState) → first_row v.lists.buffer ≡ None
    → node_run (pass_node_all K t P (in_link_of v true)) N ≡ N
no_front K t v P N f = ap (λ (ms : List Move). node_run ms N) (no_moves K t v.numbers.link P v.lists.buffer f) ∙ run_none N

-- those behind have next links too
pub next_behind : (t : ℕ) (rows : List Row) → HaveNext rows → HaveNext (on_front (at_second t) rows)
next_behind t [] h = tt
next_behind t (r ∷ rows) h = h

pub behind_next : (t : ℕ) (rows : List Row) → HaveNext rows → HaveNext (behind_front t rows)
behind_next t [] h = tt
behind_next t (r ∷ rows) h = next_behind t rows h.1

-- THE SAME AS THE CODE FINDS IT
same_front : (rows : List Row) (row r : Row) → Some row ≡ first_row rows → first_row rows ≡ Some r → row ≡ r
same_front rows row r a f = let e = a ∙ f in cc

pub entered_front : (K : Stuck) (t : ℕ) (v w : LinkView) (P Q : ℕ → Option OutLink) (r row : Row) (next : ℕ) (places : Option OutLink) (room can : Bool)
    (es fs : List Entering) (gone lost : List VehicleState) (said later : List Occurrence) → Some row ≡ first_row v.lists.buffer
    → first_row v.lists.buffer ≡ Some r → next ≡ next_link row.vehicle → places ≡ P next → can ≡ may_enter K t row.second places → can ≡ true
    → room ≡ has_room places → w ≡ left_front t v → Q ≡ one_more next P
    → fs ≡ es ++ record { link = next; vehicle = record r.vehicle { place = r.vehicle.place + 1; pushed = not room } } ∷ [] → lost ≡ gone
    → later ≡ said ++ of_vehicle LeftLink r.vehicle.id r.link Nothing ∷ of_vehicle EnteredLink r.vehicle.id next Nothing ∷ []
    → node_run (pass_node_all K t P (in_link_of v true)) (node_state (v ∷ []) P es gone said)
    ≡ node_run (pass_node_all K t Q (in_link_of w true)) (node_state (w ∷ []) Q fs lost later)
entered_front K t v w P Q r row next places room can es fs gone lost said later a f nx pl cn yes_can rm we qe fe le se =
    let s : row ≡ r = same_front v.lists.buffer row r a f in
    let n : next ≡ next_link r.vehicle = nx ∙ ap (λ (x : Row). next_link x.vehicle) s in
    let p : places ≡ P (next_link r.vehicle) = pl ∙ ap P n in
    let h0 : may_enter K t row.second places ≡ true = sym cn ∙ yes_can in
    let h1 : may_enter K t r.second places ≡ true = subst (λ (x : Row). may_enter K t x.second places ≡ true) s h0 in
    let h : may_enter K t r.second (P (next_link r.vehicle)) ≡ true = subst (λ (x : Option OutLink). may_enter K t r.second x ≡ true) p h1 in
    let b : has_room (P (next_link r.vehicle)) ≡ room = sym (rm ∙ ap has_room p) in
    let Qp : one_more (next_link r.vehicle) P ≡ Q = ap (λ (m : ℕ). one_more m P) (sym n) ∙ sym qe in
    let wp : left_front t v ≡ w = sym we in
    let fp : es ++ goes_to P r ∷ [] ≡ fs
    = ap (λ (x : Bool). es ++ record { link = next_link r.vehicle; vehicle = record r.vehicle { place = r.vehicle.place + 1; pushed = not x } } ∷ []) b
    ∙ ap (λ (m : ℕ). es ++ record { link = m; vehicle = record r.vehicle { place = r.vehicle.place + 1; pushed = not room } } ∷ []) (sym n) ∙ sym fe in
    let lp : gone ≡ lost = sym le in
    let sp : said ++ crosses r ≡ later
    = ap (λ (m : ℕ). said ++ of_vehicle LeftLink r.vehicle.id r.link Nothing ∷ of_vehicle EnteredLink r.vehicle.id m Nothing ∷ []) (sym n) ∙ sym se in
    front_enters K t v P r es gone said f h
    ∙ (λ i. node_run (pass_node_all K t (Qp i) (in_link_of (wp i) true)) (node_state (wp i ∷ []) (Qp i) (fp i) (lp i) (sp i)))

pub removed_front : (K : Stuck) (t : ℕ) (v w : LinkView) (P : ℕ → Option OutLink) (r row : Row) (next : ℕ) (places : Option OutLink) (can stuck : Bool)
    (es fs : List Entering) (gone lost : List VehicleState) (said later : List Occurrence) → Some row ≡ first_row v.lists.buffer
    → first_row v.lists.buffer ≡ Some r → next ≡ next_link row.vehicle → places ≡ P next → can ≡ may_enter K t row.second places → can ≡ false
    → stuck ≡ is_stuck K t row.second → stuck ≡ true → w ≡ left_front t v → fs ≡ es → lost ≡ gone ++ r.vehicle ∷ [] → later ≡ said ++ aborts r
    → node_run (pass_node_all K t P (in_link_of v true)) (node_state (v ∷ []) P es gone said)
    ≡ node_run (pass_node_all K t P (in_link_of w true)) (node_state (w ∷ []) P fs lost later)
removed_front K t v w P r row next places can stuck es fs gone lost said later a f nx pl cn no_can st yes_st we fe le se =
    let s : row ≡ r = same_front v.lists.buffer row r a f in
    let n : next ≡ next_link r.vehicle = nx ∙ ap (λ (x : Row). next_link x.vehicle) s in
    let p : places ≡ P (next_link r.vehicle) = pl ∙ ap P n in
    let h1 : may_enter K t r.second places ≡ false = subst (λ (x : Row). may_enter K t x.second places ≡ false) s (sym cn ∙ no_can) in
    let h : may_enter K t r.second (P (next_link r.vehicle)) ≡ false = subst (λ (x : Option OutLink). may_enter K t r.second x ≡ false) p h1 in
    let g : is_stuck K t r.second ≡ true = subst (λ (x : Row). is_stuck K t x.second ≡ true) s (sym st ∙ yes_st) in
    let wp : left_front t v ≡ w = sym we in
    let fp : es ≡ fs = sym fe in
    let lp : gone ++ r.vehicle ∷ [] ≡ lost = sym le in
    let sp : said ++ aborts r ≡ later = sym se in
    front_removed K t v P r es gone said f h g
    ∙ (λ i. node_run (pass_node_all K t P (in_link_of (wp i) true)) (node_state (wp i ∷ []) P (fp i) (lp i) (sp i)))

pub stayed_front : (K : Stuck) (t : ℕ) (v : LinkView) (P : ℕ → Option OutLink) (row : Row) (next : ℕ) (places : Option OutLink) (can stuck : Bool) (N : NodeState)
    → Some row ≡ first_row v.lists.buffer → next ≡ next_link row.vehicle → places ≡ P next → can ≡ may_enter K t row.second places → can ≡ false
    → stuck ≡ is_stuck K t row.second → stuck ≡ false → node_run (pass_node_all K t P (in_link_of v true)) N ≡ N
stayed_front K t v P row next places can stuck N a nx pl cn no_can st no_st =
    let p : places ≡ P (next_link row.vehicle) = pl ∙ ap P nx in
    let h : may_enter K t row.second (P (next_link row.vehicle)) ≡ false = subst (λ (x : Option OutLink). may_enter K t row.second x ≡ false) p (sym cn ∙ no_can) in
    front_stays K t v P row N (sym a) h (sym st ∙ no_st)
