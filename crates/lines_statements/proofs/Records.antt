-- As many records as annotations that emit, and the lengths of the records.
use mathlib.Core.Path.{◌≡◌, refl, sym, ◌∙◌, ap, subst}
use mathlib.Core.Bool.{Bool, true, false, cond, true≢false}
use mathlib.Core.List.{List, [], ◌∷◌, ◌++◌, append_assoc}
use Prim.Native.Nat.{ℕ, zero, suc, ◌+◌, ◌-◌, ◌≤◌, ◌<◌}
use native.Mathlib.Omega.{arith}
use borrow.Author.Tests.{leb-true, ne_eqb}
use lib.ListN.{length, length-append, get_or-append}
use lib.Seq.{get_or-append_seam, get_or-append-add}
use lib.Dec.{leb}
use lib.IntN.{ℤ, nat_abs}
use Rattle.std.specs.Prelude.{Ok, Option, Some, None}
use Rattle.outcome.specs.Outcome.{and_next, ◌>>◌, require}
use Rattle.outcome.proofs.OutcomeLaws.{ok_is, ok_refused}
use Rattle.annotations.specs.Annotation.{emits}
use Rattle.annotations.specs.Step.{PlacedTriple}
use Rattle.line_state.specs.State.{start, offset_of}
use Rattle.line_state.specs.Sum.{OrBad}
use Rattle.line_changes.specs.Change.{line_at, settled}
use Rattle.line_turn.specs.Turn.{turning}
use Rattle.line_state.specs.declared.state.Position.{Position}
use Rattle.line_state.specs.declared.state.Line.{Line}
use Rattle.line_state.specs.declared.state.State.{State}
use Rattle.line_changes.specs.declared.After.{After}
use Rattle.line_entries.specs.Entries.{listed}
use Rattle.lines_statements.specs.Runs.{Runs, none, more, RunsTo}
use Rattle.lines_statements.specs.Statements.{emitting, AsMany, line_of, own_length, given, HasLength, Lengths}
use Rattle.lines.proofs.ProgramLaws.{listed_few}
use Rattle.lines_statements.proofs.Runs.{run_exactly}
use Rattle.lines_statements.proofs.TurnKinds.{Kind, bad, leaves, sets, begins, closes, own, turn_kind}

-- ---- what a turn does, by its kind
abbrev held : Option Line → ℕ
held m = length (listed m)

turned : (s : State) (x : PlacedTriple) {a : After} → turning s x.triple ≡ Ok a → Kind s.last x.triple.opcode x.triple.first (Ok a)
turned s x e = rw (← e) (turn_kind s x.triple.first x.triple.second x.triple.opcode)

turn_many : {last : Option Line} {op : ℕ} {first : ℤ} {o : OrBad After} → Kind last op first o → {a : After} → o ≡ Ok a → held a.closed + held a.state.last ≡ held last + cond (emits op) 1 0
turn_many bad e = absurd (ok_refused (sym e))
turn_many (leaves p f n) e = rw (← ok_is e, f) (omega arith)
turn_many (sets p f g) e = rw (← ok_is e, f, g) (omega arith)
turn_many (begins p f g) e = rw (← ok_is e, f, g) (omega arith)
turn_many (closes p f g h) e = rw (← ok_is e, f, g) (omega arith)

-- ---- as many
many : {s t : State} {found : List PlacedTriple} {closed : List Line} → Runs s found t closed → length closed + held t.last ≡ held s.last + emitting found
unfolding emitting
many none = omega arith
many (more {s} {x} {a} {lines} e r) = rw length-append (omega (arith, many r, turn_many (turned s x e) refl))

pub as_many : AsMany
as_many =
    record {
      runs = λ found t closed r. omega (arith, many r);
      closed = λ found t closed r. omega (arith, many r);
      accepted = λ s room lines e.
          let r = ((run_exactly.accepted s room lines).0 e).0 in
          ap length r.are ∙ rw length-append (omega (arith, many r.runs));
    }

-- ---- every record that is closed has a length
-- all of these have one
abbrev Lengthy : List Line → Type 0
Lengthy l = (i : ℕ) → i < length l → (n : ℕ) × ((line_of l i).length ≡ Some n)

closed_lengthy : {last : Option Line} {op : ℕ} {first : ℤ} {o : OrBad After} → Kind last op first o → {a : After} → o ≡ Ok a → (m : List Line) → Lengthy m → Lengthy (listed a.closed ++ m)
closed_lengthy bad e m h = absurd (ok_refused (sym e))
closed_lengthy (leaves p f n) e m h = rw (← ok_is e) h
closed_lengthy (sets p f g) e m h = rw (← ok_is e) h
closed_lengthy (begins p f g) e m h = rw (← ok_is e) h
closed_lengthy (closes p {l} {n} f g k) e m h = rw (← ok_is e) (go h)
  where
    go : Lengthy m → Lengthy (line_at l.at (Some n) ∷ m)
    go h zero i = (n, refl)
    go h (suc j) i = h j (omega arith)

lengthy : {s t : State} {found : List PlacedTriple} {closed : List Line} → Runs s found t closed → Lengthy closed
lengthy none = λ i h. absurd (omega arith)
lengthy (more {s} {x} {lines} e r) = closed_lengthy (turned s x e) refl lines (lengthy r)

pub head_is : {A : Type 0} {a b : A} {l m : List A} → a ∷ l ≡ b ∷ m → a ≡ b
head_is e = cc

pub no_head : {A : Type 0} {a : A} {l : List A} → ◌≡◌ {A = List A} (a ∷ l) [] → ⊥
no_head e = let z : ◌≡◌ {A = ℕ} 0 1 = cc in omega arith

pub some_is : {l m : Line} → Some l ≡ Some m → l ≡ m
some_is e = cc

pub some_none : {l : Line} → Some l ≡ None → ⊥
some_none e = let z : ◌≡◌ {A = ℕ} 0 1 = cc in omega arith

-- ---- what becomes of a record that was emitted last, where these annotations follow and these records come of it
record Fate (l : Line) (later : List PlacedTriple) (all : List Line) : Type 0 where
  first : Line
  others : List Line
  is : all ≡ first ∷ others
  at : first.at ≡ l.at
  set : (n : ℕ) → given l.length later ≡ Some n → first.length ≡ Some n
  due : given l.length later ≡ None → (r : Line) (after : List Line) → others ≡ r ∷ after → (offset_of l.at ≤ offset_of r.at) × (first.length ≡ Some (offset_of r.at - offset_of l.at))
  left : given l.length later ≡ None → others ≡ [] → first.length ≡ None

pub settled_set : (from : Position) (n : Option ℕ) (to : ℕ) {m : ℕ} (k : ℕ) → settled from n to ≡ Ok m → n ≡ Some k → m ≡ k
unfolding settled
settled_set from n to k e f = ok_is (sym (rw f at e))

pub settled_due : (from : Position) (n : Option ℕ) (to : ℕ) {m : ℕ} → settled from n to ≡ Ok m → n ≡ None → (offset_of from ≤ to) × (m ≡ to - offset_of from)
unfolding settled and_next require
settled_due from n to {m} e f = go (leb (offset_of from) to) refl (rw f at e)
  where
    go : (b : Bool) → leb (offset_of from) to ≡ b → ◌≡◌ {A = OrBad ℕ} (require b tt >> Ok (to - offset_of from)) (Ok m) → (offset_of from ≤ to) × (m ≡ to - offset_of from)
    go true t g = (leb-true (offset_of from) to t, ok_is (sym g))
    go false t g = absurd (ok_refused (sym g))

-- a record closed by an emission at p, before what becomes of the record that is emitted there
closed_fate : (l : Line) (x : PlacedTriple) (later : List PlacedTriple) (p : Position) (n : ℕ) (o : Option ℕ) {all : List Line} → emits x.triple.opcode ≡ true → settled l.at l.length (offset_of p) ≡ Ok n → Fate (line_at p o) later all → Fate l (x ∷ later) (line_at l.at (Some n) ∷ all)
unfolding given
closed_fate l x later p n o {all} e f r =
    record {
      first = line_at l.at (Some n);
      others = all;
      is = refl;
      at = refl;
      set = λ k g. ap Some (settled_set l.at l.length (offset_of p) k f (rw e at g));
      due = λ g y after h.
          let d = settled_due l.at l.length (offset_of p) f (rw e at g) in
          let same : r.first ≡ y = head_is (sym r.is ∙ h) in
          let place : offset_of y.at ≡ offset_of p = ap (λ (q : Line). offset_of q.at) (sym same) ∙ ap offset_of r.at in
          rw place (d.0, ap Some d.1);
      left = λ g h. absurd (no_head (sym r.is ∙ h));
    }

-- a turn that emits nothing
quiet_fate : (l m : Line) (x : PlacedTriple) (later : List PlacedTriple) {all : List Line} → m.at ≡ l.at → given l.length (x ∷ later) ≡ given m.length later → Fate m later all → Fate l (x ∷ later) all
quiet_fate l m x later e g r =
    record {
      first = r.first;
      others = r.others;
      is = r.is;
      at = r.at ∙ e;
      set = λ n h. r.set n (sym g ∙ h);
      due = λ h y after k. rw e at (r.due (sym g ∙ h) y after k);
      left = λ h k. r.left (sym g ∙ h) k;
    }

-- by the kind of the turn: what becomes of l, where the last record before it is l
turn_fate : (l : Line) (x : PlacedTriple) (later : List PlacedTriple) {last : Option Line} {o : OrBad After} → Kind last x.triple.opcode x.triple.first o → last ≡ Some l → {a : After} → o ≡ Ok a → (all : List Line) → ((m : Line) → a.state.last ≡ Some m → Fate m later all) → Fate l (x ∷ later) (listed a.closed ++ all)
unfolding given
turn_fate l x later bad g e all h = absurd (ok_refused (sym e))
turn_fate l x later (leaves p f n) g {a} e all h =
    let k : listed a.closed ++ all ≡ all = rw (← ok_is e) in
    rw k (quiet_fate l l x later refl (rw (f, ne_eqb x.triple.opcode 4 n)) (h l (rw (← ok_is e) g)))
turn_fate l x later (sets p {l = m} f k) g {a} e all h =
    let same : m ≡ l = some_is (sym k ∙ g) in
    let quiet : listed a.closed ++ all ≡ all = rw (← ok_is e) in
    rw quiet (quiet_fate l (line_at l.at (Some (nat_abs x.triple.first))) x later refl (rw f) (h _ (rw (← ok_is e, same))))
turn_fate l x later (begins p f k) g e all h = absurd (some_none (sym g ∙ k))
turn_fate l x later (closes p {l = m} {n} f k s) g {a} e all h =
    let same : m ≡ l = some_is (sym k ∙ g) in
    let done : listed a.closed ++ all ≡ line_at l.at (Some n) ∷ all = rw (← ok_is e, same) in
    rw done (closed_fate l x later p n (own x.triple.opcode x.triple.first) f (rw same at s) (h _ (rw (← ok_is e))))

last_fate : (l : Line) → Fate l [] (l ∷ [])
unfolding given
last_fate l =
    record {
      first = l;
      others = [];
      is = refl;
      at = refl;
      set = λ n h. h;
      due = λ h r after k. absurd (no_head (sym k));
      left = λ h k. h;
    }

fate : {s t : State} {found : List PlacedTriple} {closed : List Line} → Runs s found t closed → (l : Line) → s.last ≡ Some l → Fate l found (closed ++ listed t.last)
fate (none {s}) l g = subst (λ (m : Option Line). Fate l [] (listed m)) (sym g) (last_fate l)
fate (more {s} {t} {x} {later} {a} {lines} e r) l g =
    subst (λ (all : List Line). Fate l (x ∷ later) all) (sym (append_assoc (listed a.closed) lines (listed t.last)))
    (turn_fate l x later (turned s x e) g refl (lines ++ listed t.last) (λ m k. fate r m k))

-- ---- a run in parts
pub tail_is : {A : Type 0} {a b : A} {l m : List A} → a ∷ l ≡ b ∷ m → l ≡ m
tail_is e = cc

record First (s t : State) (x : PlacedTriple) (later : List PlacedTriple) (closed : List Line) : Type 0 where
  after : After
  lines : List Line
  turns : turning s x.triple ≡ Ok after
  rest : Runs after.state later t lines
  are : closed ≡ listed after.closed ++ lines

first_of : {s t : State} {all : List PlacedTriple} {closed : List Line} → Runs s all t closed → (x : PlacedTriple) (later : List PlacedTriple) → all ≡ x ∷ later → First s t x later closed
first_of none x later f = absurd (no_head (sym f))
first_of (more {s} {t} {a} {lines} e r) x later f =
    record {
      after = a;
      lines = lines;
      turns = subst (λ (y : PlacedTriple). turning s y.triple ≡ Ok a) (head_is f) e;
      rest = subst (λ (l : List PlacedTriple). Runs a.state l t lines) (tail_is f) r;
      are = refl;
    }

record Split (s t : State) (before later : List PlacedTriple) (closed : List Line) : Type 0 where
  state : State
  done : List Line
  left : List Line
  first : Runs s before state done
  rest : Runs state later t left
  are : closed ≡ done ++ left

split : (before : List PlacedTriple) {s t : State} {later : List PlacedTriple} {closed : List Line} → Runs s (before ++ later) t closed → Split s t before later closed
split [] {s} {closed} r = record { state = s; done = []; left = closed; first = none; rest = r; are = refl }
split (x ∷ before) {s} {t} {later} {closed} r =
    let f = first_of r x (before ++ later) refl in
    let p = split before f.rest in
    record {
      state = p.state;
      done = listed f.after.closed ++ p.done;
      left = p.left;
      first = more f.turns p.first;
      rest = p.rest;
      are = f.are ∙ ap (λ (l : List Line). listed f.after.closed ++ l) p.are ∙ sym (append_assoc (listed f.after.closed) p.done p.left);
    }

-- ---- the record that an annotation emits
emitted : {last : Option Line} {op : ℕ} {first : ℤ} {o : OrBad After} → Kind last op first o → emits op ≡ true → {a : After} → o ≡ Ok a → (p : Position) × ((a.state.last ≡ Some (line_at p (own op first))) × (held a.closed ≡ held last))
emitted bad f e = absurd (ok_refused (sym e))
emitted (leaves p g n) f e = absurd (true≢false (sym f ∙ g))
emitted (sets p g h) f e = absurd (true≢false (sym (rw g at f)))
emitted (begins p g h) f e = (p, (rw (← ok_is e), rw (← ok_is e, h)))
emitted (closes p g h k) f e = (p, (rw (← ok_is e), rw (← ok_is e, h)))

-- ---- the record after so many others
module _ (front : List Line) (first : Line) (others : List Line) where
  record_at_lem : line_of (front ++ first ∷ others) (length front) ≡ first
  record_at_lem = get_or-append_seam front first others _

  record_after : (r : Line) (after : List Line) → others ≡ r ∷ after → line_of (front ++ first ∷ others) (suc (length front)) ≡ r
  record_after r after e =
      let n : suc (length front) ≡ length front + 1 = omega arith in
      rw (n, e) (get_or-append-add front (first ∷ r ∷ after) 1 _)

-- the records are as many others as were emitted before, then this one, and those after it
record Found (before later : List PlacedTriple) (x : PlacedTriple) (lines : List Line) : Type 0 where
  place : Position
  front : List Line
  rest : List Line
  many : length front ≡ emitting before
  becomes : Fate (line_at place (own_length x.triple)) later rest
  are : lines ≡ front ++ rest

found : (before later : List PlacedTriple) (x : PlacedTriple) (lines : List Line) → RunsTo start (before ++ x ∷ later) lines → emits x.triple.opcode ≡ true → Found before later x lines
found before later x lines r e =
    let p = split before r.runs in
    let f = first_of p.rest x later refl in
    let k = emitted (turned p.state x f.turns) e refl in
    let done = listed f.after.closed in
    let last = listed r.state.last in
    record {
      place = k.0;
      front = p.done ++ done;
      rest = f.lines ++ last;
      many = rw length-append (omega (arith, many p.first, k.1.1));
      becomes = fate f.rest _ k.1.0;
      are = r.are ∙ ap (λ (l : List Line). l ++ last) (p.are ∙ ap (λ (l : List Line). p.done ++ l) f.are) ∙ simp append_assoc;
    }

empty : (l : List Line) → length l ≡ 0 → l ≡ []
empty [] e = refl
empty (y ∷ l) e = absurd (omega arith)

module _ (before later : List PlacedTriple) (x : PlacedTriple) (lines : List Line) (d : Found before later x lines) where
  abbrev i : ℕ
  i = emitting before

  abbrev b : Fate (line_at d.place (own_length x.triple)) later d.rest
  b = d.becomes

  all : lines ≡ d.front ++ b.first ∷ b.others
  all = d.are ∙ ap (λ (l : List Line). d.front ++ l) b.is

  long : length lines ≡ i + suc (length b.others)
  long = ap length all ∙ rw (length-append, d.many)

  here : line_of lines i ≡ b.first
  here =
      ap (λ (n : ℕ). line_of lines n) (sym d.many) ∙ ap (λ (l : List Line). line_of l (length d.front)) all ∙ record_at_lem d.front b.first b.others

  due : (o : List Line) → b.others ≡ o → given (own_length x.triple) later ≡ None → suc i < length lines → (offset_of (line_of lines i).at ≤ offset_of (line_of lines (suc i)).at) × ((line_of lines i).length ≡ Some (offset_of (line_of lines (suc i)).at - offset_of (line_of lines i).at))
  due [] o g h = absurd (omega (arith, long, ap length o))
  due (r ∷ after) o g h =
      let next : line_of lines (suc i) ≡ r = ap (λ (n : ℕ). line_of lines (suc n)) (sym d.many) ∙ ap (λ (l : List Line). line_of l (suc (length d.front))) all ∙ record_after d.front b.first b.others r after o in
      let place : offset_of (line_of lines i).at ≡ offset_of d.place = ap (λ (l : Line). offset_of l.at) here ∙ ap offset_of b.at in
      let place' : offset_of (line_of lines (suc i)).at ≡ offset_of r.at = ap (λ (l : Line). offset_of l.at) next in
      let q = b.due g r after o in
      (omega (arith, q.0), ap (λ (l : Line). l.length) here ∙ q.1 ∙ ap Some (omega arith))

  has_length : HasLength before later x lines
  has_length =
      record {
        set = λ n g. rw here (b.set n g);
        due = λ g h. due b.others refl g h;
        left = λ g h. rw here (b.left g (empty b.others (omega (arith, long))));
      }

pub lengths : Lengths
lengths =
    record {
      each = λ s room lines e i h.
          let r = ((run_exactly.accepted s room lines).0 e).0 in
          let long : length lines ≡ length r.closed + held r.state.last = ap length r.are ∙ simp length-append in
          let few : i < length r.closed = omega (arith, listed_few r.state.last) in
          let k = lengthy r.runs i few in
          (k.0, ap (λ (l : List Line). (line_of l i).length) r.are ∙ ap (λ (l : Line). l.length) (get_or-append r.closed (listed r.state.last) _ i few) ∙ k.1);
      are = λ before later x lines r e. has_length before later x lines (found before later x lines r e);
    }
