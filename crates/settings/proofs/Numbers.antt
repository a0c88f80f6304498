-- Whole numbers in a range.
use Rattle.std.proofs.Common.{◌≡◌, ℕ, Bool, true, false, ◌&&◌, nat_le, int_le, is_some, ℤ, if◌then◌else◌, Option, None, Some, sym}
use Rattle.serde_json.specs.Data.{Data}
use Rattle.settings.specs.Looking.{whole, signed, if_from_to, if_signed_from_to, whole_in, signed_in}

taken : {A : Type 0} (b : Bool) (x y : A) → Some x ≡ (if b then Some y else None) → Some y ≡ Some x
taken true x y e = sym e
taken false x y e = cc

in_range : (low high n : ℕ) (o : Option ℕ) → Some n ≡ if_from_to low high o → o ≡ Some n
in_range low high n None e = cc
in_range low high n (Some m) e = taken (nat_le low m && nat_le m high) n m e

signed_in_range : (low high z : ℤ) (o : Option ℤ) → Some z ≡ if_signed_from_to low high o → o ≡ Some z
signed_in_range low high z None e = cc
signed_in_range low high z (Some m) e = taken (int_le low m && int_le m high) z m e

-- a number in a range is what the value is
pub whole_given : (low high n : ℕ) (value : Data) → Some n ≡ whole_in low high value → whole value ≡ Some n
unfolding whole_in
whole_given low high n value e = in_range low high n (whole value) e

signed_is : (low high : ℤ) (o p : Option ℤ) → p ≡ if_signed_from_to low high o → is_some p ≡ true → p ≡ o
signed_is low high o None e some = cc
signed_is low high o (Some z) e some = sym (signed_in_range low high z o e)

pub signed_kept : (low high : ℤ) (value : Data) (o : Option ℤ) → o ≡ signed_in low high value → is_some o ≡ true → o ≡ signed value
unfolding signed_in
signed_kept low high value o e some = signed_is low high (signed value) o e some
