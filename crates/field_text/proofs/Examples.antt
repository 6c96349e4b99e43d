-- The definitions on literal texts: what they accept, and what they don't.
use Rattle.std.proofs.Common.{◌≡◌, [], ◌∷◌, pos, negsuc, Some, None, refl}
use Rattle.std.specs.Prelude.{codes}
use Rattle.field_text.specs.Grammars.{choice, count, date, degree, degree_within, escape, id, moment, time}
use Rattle.field_text.proofs.OnLiterals.{field_text_on_literals}

midnight : time (codes "24:00:00") ≡ Some 86400
midnight = refl

the_last_time : time (codes "167:59:59") ≡ Some 604799
the_last_time = refl

no_later_time : time (codes "168:00:00") ≡ None
no_later_time = refl

one_digit_minutes : time (codes "7:5:00") ≡ None
one_digit_minutes = refl

sixty_seconds : time (codes "7:05:60") ≡ None
sixty_seconds = refl

no_seconds : time (codes "07:05") ≡ None
no_seconds = refl

four_parts : time (codes "07:05:00:00") ≡ None
four_parts = refl

no_hours : time (codes ":05:00") ≡ None
no_hours = refl

leading_blank : time (codes " 7:05:00") ≡ None
leading_blank = refl

a_count : count 604800 (codes "00600") ≡ Some 600
a_count = refl

the_greatest_count : count 18446744073709551615 (codes "18446744073709551615") ≡ Some 18446744073709551615
the_greatest_count = refl

no_greater_count : count 18446744073709551615 (codes "18446744073709551616") ≡ None
no_greater_count = refl

twenty_one_digits : count 9 (codes "000000000000000000001") ≡ None
twenty_one_digits = refl

no_count : count 9 [] ≡ None
no_count = refl

signed_count : count 9 (codes "+1") ≡ None
signed_count = refl

a_choice : choice 0 4 (codes "4") ≡ Some 4
a_choice = refl

no_choice : choice 0 4 (codes "5") ≡ None
no_choice = refl

two_digit_choice : choice 0 4 (codes "04") ≡ None
two_digit_choice = refl

an_id : id (codes "x") ≡ Some (codes "x")
an_id = refl

cut : degree 180 (codes "5.12345678901234567") ≡ Some (pos 5123456789012345)
cut = refl

exponent : degree 180 (codes "5e-1") ≡ Some (pos 500000000000000)
exponent = refl

negative : degree 180 (codes "-180") ≡ Some (negsuc 179999999999999999)
negative = refl

just : degree 180 (codes "180.0000000000000009") ≡ Some (pos 180000000000000000)
just = refl

too_large : degree 180 (codes "180.000000000000001") ≡ None
too_large = refl

tiny : degree 180 (codes "-0.0000000000000009") ≡ Some (pos 0)
tiny = refl

two_points : degree 180 (codes "5.1.2") ≡ None
two_points = refl

far : degree 180 (codes "1e99") ≡ None
far = refl

far_zero : degree 180 (codes "0e+9999") ≡ Some (pos 0)
far_zero = refl

long : degree 180 (codes "0000000000000000000000000000000000000000000000000000000001.5E+02") ≡ Some (pos 150000000000000000)
long = refl

too_long : degree 180 (codes "00000000000000000000000000000000000000000000000000000000001.5E+02") ≡ None
too_long = refl

trailing_point : degree 90 (codes "+5.") ≡ Some (pos 5000000000000000)
trailing_point = refl

leading_point : degree 90 (codes "-.5") ≡ Some (negsuc 499999999999999)
leading_point = refl

no_digits : degree 90 (codes ".") ≡ None
no_digits = refl

two_signs : degree 90 (codes "+-5") ≡ None
two_signs = refl

bad_exponent : degree 90 (codes "5e") ≡ None
bad_exponent = refl

five_digit_exponent : degree 90 (codes "5e00001") ≡ None
five_digit_exponent = refl

two_exponents : degree 90 (codes "5e1e1") ≡ None
two_exponents = refl

no_degree_up_to_less_than_zero : degree_within (negsuc 0) (codes "0") ≡ None
no_degree_up_to_less_than_zero = refl

a_date : date (codes "20250604") ≡ Some (pos 20243)
unfolding field_text_on_literals
a_date = refl

a_leap_day : date (codes "20240229") ≡ Some (pos 19782)
unfolding field_text_on_literals
a_leap_day = refl

no_leap_day : date (codes "20250229") ≡ None
unfolding field_text_on_literals
no_leap_day = refl

no_year_zero : date (codes "00000101") ≡ None
unfolding field_text_on_literals
no_year_zero = refl

the_first_date : date (codes "00010101") ≡ Some (negsuc 719161)
unfolding field_text_on_literals
the_first_date = refl

the_last_date : date (codes "99991231") ≡ Some (pos 2932896)
unfolding field_text_on_literals
the_last_date = refl

a_moment : moment 1990 2199 (codes "2025-06-04T07:30:00Z") ≡ Some (pos 1749022200)
unfolding field_text_on_literals
a_moment = refl

the_first_moment : moment 1980 2209 (codes "1980-01-01T00:00:00Z") ≡ Some (pos 315532800)
unfolding field_text_on_literals
the_first_moment = refl

the_last_moment : moment 1980 2209 (codes "2209-12-31T23:59:59Z") ≡ Some (pos 7573651199)
unfolding field_text_on_literals
the_last_moment = refl

no_earlier_moment : moment 1980 2209 (codes "1979-12-31T23:59:59Z") ≡ None
unfolding field_text_on_literals
no_earlier_moment = refl

no_midnight_at_24 : moment 1980 2209 (codes "2025-06-04T24:00:00Z") ≡ None
unfolding field_text_on_literals
no_midnight_at_24 = refl

lower_case : moment 1980 2209 (codes "2025-06-04t07:30:00z") ≡ None
unfolding field_text_on_literals
lower_case = refl

an_escape : escape (72 ∷ 195 ∷ 184 ∷ 106 ∷ 32 ∷ 53 ∷ 37 ∷ []) ≡ codes "H%C3%B8j%205%25"
an_escape = refl
