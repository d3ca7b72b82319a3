-- The tokens of a loan that ends within a lifetime κ: the lifetime is a ∷ κ, for an atom a that the lender makes and ends.
--     within        a's whole token and κ's give a token of a ∷ κ, one of κ, and the way back to a's
--     whole_again   the other way, once the loan is over
--     shorter       a ∷ κ ends no later than κ, which a callee with `'a: 's` asks.        ended      it is over where a is
-- It says nothing of the crate. Assumes `Logic`.
use Prim.Native.Nat.{ℕ}
use mathlib.Core.List.{[], ◌∷◌}
use seplogic.Ra.Ura.{Ura}
use base.Share
use base.Fraction.{full_share}
use base.Logic.{SProp, ent, sep, wand}
use base.Fml.{Lft, Share, flft}
use types.Logic.{Logic}
use contract.BorrowLft.{◌⊑◌, meet_⊑_left, meet_⊑_right}
use types.Kit.{‵, raw, ◌⊛◌, ◌$◌, ◌∵◌, !, qed, move, use1, use2, split, apply, done}

pub shorter : (a : ℕ) (κ : Lft) → a ∷ κ ⊑ κ
shorter a κ = meet_⊑_right (a ∷ []) κ

module _ {M : Type 1} {𝓤 : Ura M} (𝓛 : Logic 𝓤) (a : ℕ) (κ : Lft) where
  open 𝓛 use {A}

  pub ended : ent 𝓤 (A.dead (a ∷ [])) (A.dead (a ∷ κ))
  ended = 𝓛.lfts.dead-incl (a ∷ κ) (a ∷ []) (meet_⊑_left (a ∷ []) κ)

  module _ (q : Share) where
    -- the way back to a's whole token
    abbrev pub Back : SProp 𝓤
    Back = wand 𝓤 (A.lft (a ∷ []) (Share.left q)) (A.lft (a ∷ []) full_share)

    -- what the loan has of tokens while it stands
    abbrev pub Within : SProp 𝓤
    Within = sep 𝓤 (A.lft (a ∷ κ) (Share.left q)) (sep 𝓤 (A.lft κ (Share.right q)) Back)

    pub within : ent 𝓤 (sep 𝓤 (A.lft (a ∷ []) full_share) (A.lft κ q)) Within
    within =
        qed 𝓛 (‵ (flft (a ∷ []) full_share) ∷ ‵ (flft κ q) ∷ []) ∵ use1 𝓛 (‵ (flft (a ∷ []) (Share.left q)) ⊛ raw Back) (𝓛.lfts.lft_carve a (Share.left q)) $ split ! $
        move ! (2 ∷ []) $ use1 𝓛 (‵ (flft κ (Share.left q)) ⊛ ‵ (flft κ (Share.right q))) (𝓛.lfts.lft_split κ q) $ split ! $
        move ! (2 ∷ 0 ∷ []) $ use2 𝓛 (‵ (flft (a ∷ κ) (Share.left q))) (𝓛.lfts.lft_meet (a ∷ []) κ (Share.left q)) $ done !

    pub whole_again : ent 𝓤 Within (sep 𝓤 (A.lft (a ∷ []) full_share) (A.lft κ q))
    whole_again =
        qed 𝓛 (‵ (flft (a ∷ κ) (Share.left q)) ∷ ‵ (flft κ (Share.right q)) ∷ raw Back ∷ []) ∵
        use1 𝓛 (‵ (flft (a ∷ []) (Share.left q)) ⊛ ‵ (flft κ (Share.left q))) (𝓛.lfts.lft_unmeet (a ∷ []) κ (Share.left q)) $ split ! $
        move ! (1 ∷ 2 ∷ []) $ use2 𝓛 (‵ (flft κ q)) (𝓛.lfts.lft_join κ q) $ move ! (1 ∷ 2 ∷ []) $ apply ! {B = A.lft (a ∷ []) full_share} $ done !
