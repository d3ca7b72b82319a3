-- Every page has one role: its number says which. A page that is neither the header's nor a map page is the data page of
-- its rank, and the ranks are those of the streams, the directory, the location page and the padding, in this order.
use mathlib.Core.Path.{◌≡◌, refl, sym, ◌∙◌, ap}
use mathlib.Core.Bool.{Bool, true, false, cond}
use mathlib.Core.Logic.{inl, inr, ⊎_elim}
use mathlib.Core.List.{List}
use Prim.Native.Nat.{ℕ, zero, suc, ◌+◌, ◌-◌, ◌%◌, ◌≤◌, ◌<◌}
use native.Mathlib.Omega.{arith}
use borrow.Author.Tests.{eq-eqb, ne_eqb, lt-ltb, le-ltb, eqb-true, eqb-false}
use lib.Dec.{eqb, ltb}
use lib.ListN.{length, get_or}
use Rattle.outcome.proofs.OutcomeLaws.{below_or}
use Rattle.stream.specs.Stream.{pages_of}
use Rattle.container_layout.specs.Place.{data_page, rank}
use Rattle.container_layout.specs.Layout.{pages_up_to, stream_pages, directory_pages, pages_used}
use Rattle.container_layout.specs.Container.{stream_of}
use Rattle.container_layout.proofs.PlaceLaws.{divides, data_least, data_rises, data_not, rank_data, data_rank}
use Rattle.container_layout.proofs.LayoutLaws.{pages_next, pages_rise}
use Rattle.container_layout.proofs.ContainerLaws.{stream_of_lem}
use Rattle.container_layout.proofs.PlannedLaws.{padding_least, padding_one, padding_two, padding_rank}
use Rattle.container_writer_statements.specs.Accepted.{Accepted}
use Rattle.container_writer_statements.specs.Roles.{Role, header, free_map, stream, directory, location, padding, OfStream, Has, OneRole}
use Rattle.container_writer_statements.proofs.AcceptedLaws.{plan, large, big}

-- ---- the stream whose page has rank r, among the first n
record Owner (p : ℕ) (sizes : List ℕ) (n r : ℕ) : Type 0 where
  which : ℕ
  below : which < n
  from : pages_up_to p sizes which ≤ r
  to : r < pages_up_to p sizes which + pages_of p (get_or sizes which 0)

owner : (p : ℕ) (sizes : List ℕ) (n r : ℕ) → r < pages_up_to p sizes n → Owner p sizes n r
unfolding pages_up_to
owner p sizes zero r l = absurd (omega arith)
owner p sizes (suc n) r l =
    ⊎_elim
    (λ (m : r < pages_up_to p sizes n).
    let o = owner p sizes n r m in
    record { which = o.which; below = omega (arith, o.below); from = o.from; to = o.to })
    (λ (m : pages_up_to p sizes n ≤ r). record { which = n; below = omega arith; from = m; to = l })
    (below_or r (pages_up_to p sizes n))

-- a data page before those of the directory is a stream's
pub owned : (p : ℕ) (sizes : List ℕ) (r n : ℕ) → n ≡ data_page p r → r < stream_pages p sizes → (k : ℕ) × OfStream p sizes k n
owned p sizes r n e l =
    let o = owner p sizes (length sizes) r l in
    let from = o.from in
    let to = o.to in
    let at : r ≡ pages_up_to p sizes o.which + (r - pages_up_to p sizes o.which) = omega arith in (
      o.which,
      record {
        there = o.below;
        among = record { which = r - pages_up_to p sizes o.which; below = omega arith; is = e ∙ ap (data_page p) at };
      },
    )

module _ (p : ℕ) (sizes : List ℕ) where
  -- ---- the role that a page's number says
  role_by_rank : ℕ → Role
  role_by_rank r =
      cond (ltb r (stream_pages p sizes)) (stream (stream_of p sizes (length sizes) r))
      (cond (ltb r (stream_pages p sizes + directory_pages p sizes)) directory
      (cond (eqb r (stream_pages p sizes + directory_pages p sizes)) location padding))

  role_of : ℕ → Role
  role_of n =
      cond (eqb n 0) header (cond (eqb (n % p) 1) free_map (cond (eqb (n % p) 2) free_map (role_by_rank (rank p n))))

module _ {p : ℕ} {sizes : List ℕ} {given : ℕ} (a : Accepted p sizes given) where
  abbrev ends : ℕ
  ends = stream_pages p sizes + directory_pages p sizes

  -- ---- a data page has the role of its rank
  data_role : (r : ℕ) → role_of p sizes (data_page p r) ≡ role_by_rank p sizes r
  unfolding role_of
  data_role r =
      rw (
        ne_eqb (data_page p r) 0 (λ e. let l = data_least p (big a) r in omega arith),
        ne_eqb (data_page p r % p) 1 (data_not p (big a) r 1 (omega arith) (omega arith)),
        ne_eqb (data_page p r % p) 2 (data_not p (big a) r 2 (omega arith) (omega arith)),
        rank_data p (big a) r,
      )

  -- ---- so each page's role is the one that its number says
  not_first : (n x : ℕ) → n % p ≡ suc x → n ≡ 0 → ⊥
  not_first n x e z =
      let first = (divides p 0 0 0 (let l = large a in omega arith) (omega arith)).1 in omega (arith, first, rw z at e)

  stream_rank : (k j : ℕ) → k < length sizes → j < pages_of p (get_or sizes k 0) → role_by_rank p sizes (pages_up_to p sizes k + j) ≡ stream k
  unfolding role_by_rank
  stream_rank k j l m =
      let next = pages_next sizes p k in
      let rise = pages_rise sizes p (k + 1) (length sizes) (omega arith) in
      rw (lt-ltb (pages_up_to p sizes k + j) (stream_pages p sizes) (omega arith), stream_of_lem p (big a) sizes sizes (length sizes) k (pages_up_to p sizes k + j) l (omega arith) (omega arith))

  directory_rank : (j : ℕ) → j < directory_pages p sizes → role_by_rank p sizes (stream_pages p sizes + j) ≡ directory
  unfolding role_by_rank
  directory_rank j l =
      rw (le-ltb (stream_pages p sizes + j) (stream_pages p sizes) (omega arith), lt-ltb (stream_pages p sizes + j) ends (omega arith))

  location_rank : role_by_rank p sizes ends ≡ location
  unfolding role_by_rank
  location_rank = rw (le-ltb ends (stream_pages p sizes) (omega arith), le-ltb ends ends (omega arith), eq-eqb ends ends refl)

  past_rank : (r : ℕ) → ends < r → role_by_rank p sizes r ≡ padding
  unfolding role_by_rank
  past_rank r l =
      rw (le-ltb r (stream_pages p sizes) (omega arith), le-ltb r ends (omega arith), ne_eqb r ends (λ e. omega arith))

  the_role : (n : ℕ) (r : Role) → Has p sizes r n → role_of p sizes n ≡ r
  unfolding role_of
  the_role n header e = rw (eq-eqb n 0 e)
  the_role n free_map (inl e) = rw (ne_eqb n 0 (not_first n 0 e), eq-eqb (n % p) 1 e)
  the_role n free_map (inr e) =
      rw (ne_eqb n 0 (not_first n 1 e), ne_eqb (n % p) 1 (λ z. omega arith), eq-eqb (n % p) 2 e)
  the_role n (stream k) o =
      ap (role_of p sizes) o.among.is ∙ data_role _ ∙ stream_rank k o.among.which o.there o.among.below
  the_role n directory o = ap (role_of p sizes) o.is ∙ data_role _ ∙ directory_rank o.which o.below
  the_role n location e = ap (role_of p sizes) e ∙ data_role _ ∙ location_rank
  the_role n padding h =
      let size = (plan a).size in
      let one = padding_one sizes sizes size n h.0 h.1 in
      let two = padding_two sizes sizes size n h.0 h.1 in
      let is = data_rank p (big a) n (omega (arith, padding_least sizes sizes size n h.0 h.1)) one two in
      ap (role_of p sizes) (sym is) ∙ data_role _ ∙ past_rank (rank p n) (padding_rank sizes sizes size n h.0 h.1)

  one_role : (n : ℕ) (r s : Role) → Has p sizes r n → Has p sizes s n → r ≡ s
  one_role n r s h g = sym (the_role n r h) ∙ the_role n s g

  streams_apart : (n j k : ℕ) → OfStream p sizes j n → OfStream p sizes k n → j ≡ k
  streams_apart n j k o q = let e = one_role n (stream j) (stream k) o q in cc

  -- ---- and it has one
  by_rank : (n : ℕ) → n < pages_used p sizes → (r : ℕ) → n ≡ data_page p r → (role : Role) × Has p sizes role n
  by_rank n l r e =
      ⊎_elim (λ (m : r < stream_pages p sizes). let o = owned p sizes r n e m in (stream o.0, o.1))
      (λ (m : stream_pages p sizes ≤ r).
      ⊎_elim
      (λ (q : r < ends).
      let at : r ≡ stream_pages p sizes + (r - stream_pages p sizes) = omega arith in
      (directory, record { which = r - stream_pages p sizes; below = omega arith; is = e ∙ ap (data_page p) at }))
      (λ (q : ends ≤ r).
      ⊎_elim (λ (t : ends < r). (padding, (omega (arith, e, data_rises p (big a) ends r t), l)))
      (λ (t : r ≤ ends). let at : r ≡ ends = omega arith in (location, e ∙ ap (data_page p) at))
      (below_or ends r))
      (below_or r ends))
      (below_or r (stream_pages p sizes))

  some_role : (n : ℕ) → n < pages_used p sizes → (role : Role) × Has p sizes role n
  some_role n l = go (eqb n 0) (eqb (n % p) 1) (eqb (n % p) 2) refl refl refl
    where
      go : (x y z : Bool) → eqb n 0 ≡ x → eqb (n % p) 1 ≡ y → eqb (n % p) 2 ≡ z → (role : Role) × Has p sizes role n
      go true y z e f g = (header, eqb-true n 0 e)
      go false true z e f g = (free_map, inl (eqb-true (n % p) 1 f))
      go false false true e f g = (free_map, inr (eqb-true (n % p) 2 g))
      go false false false e f g =
          let none : n ≡ 0 → ⊥ = eqb-false n 0 e in
          by_rank n l (rank p n) (sym (data_rank p (big a) n (omega arith) (eqb-false (n % p) 1 f) (eqb-false (n % p) 2 g)))

pub the_roles : OneRole
the_roles =
    record {
      some = λ p sizes given a. some_role a;
      one = λ p sizes given a. one_role a;
      apart = λ p sizes given a. streams_apart a;
    }
