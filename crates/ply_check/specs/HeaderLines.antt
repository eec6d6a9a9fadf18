-- What a line of a header says, by its tokens.
use Rattle.std.specs.Prelude.{ℕ, ◌^◌, Bool, false, ◌&&◌, ◌||◌, nat_lt, List, [], ◌∷◌, Option, Some, None, codes, if◌then◌else◌}
use Rattle.std.specs.List.{list_any}
use Rattle.std.specs.Str.{all_ascii_digits, bytes_eq}
use Rattle.std.specs.Str.Parse.{digits_value}
use Rattle.fixed_ops.specs.Numerals.{digits_read}
use Rattle.ply_check.specs.declared.header_line.HeaderLine.{HeaderLine}
use Rattle.ply_check.specs.declared.header_line.HeaderLine.TheVariants.{Format, Vertices, Property, Faces, FaceList, Comment, End, Other}

-- the line with which a file begins
abbrev pub is_ply : List (List ℕ) → Bool
is_ply (word ∷ []) = bytes_eq word (codes "ply")
is_ply tokens = false

-- the types of whole numbers of one or two bytes, and of other numbers
abbrev pub short_types : List (List ℕ)
short_types = codes "char" ∷ codes "uchar" ∷ codes "short" ∷ codes "ushort" ∷ []

abbrev pub long_types : List (List ℕ)
long_types = codes "int" ∷ codes "uint" ∷ codes "float" ∷ codes "double" ∷ []

-- and their other names, which tell their bits
abbrev pub short_sizes : List (List ℕ)
short_sizes = codes "int8" ∷ codes "uint8" ∷ codes "int16" ∷ codes "uint16" ∷ []

abbrev pub long_sizes : List (List ℕ)
long_sizes = codes "int32" ∷ codes "uint32" ∷ codes "float32" ∷ codes "float64" ∷ []

-- the name of a type of numbers
abbrev pub is_type : List ℕ → Bool
is_type word =
    list_any (bytes_eq word) short_types || list_any (bytes_eq word) long_types
    || list_any (bytes_eq word) short_sizes || list_any (bytes_eq word) long_sizes

-- the name of the list of a face's vertices
abbrev pub is_index_list : List ℕ → Bool
is_index_list word = bytes_eq word (codes "vertex_indices") || bytes_eq word (codes "vertex_index")

-- the number that digits spell, and None where another byte is among them
abbrev pub digits_said : List ℕ → Option ℕ
digits_said token = if all_ascii_digits token then Some (digits_value 10 token) else None

-- the number, where it is below 2^31
abbrev pub if_small : Option ℕ → Option ℕ
if_small None = None
if_small (Some number) = if nat_lt number (2 ^ 31) then Some number else None

-- a number of elements: 1 to 10 digits that spell a number below 2^31
abbrev pub element_count : List ℕ → Option ℕ
element_count token = if_small (digits_read 10 token)

-- what `element` says with a name and a number
abbrev pub element_said : List ℕ → Option ℕ → HeaderLine
element_said name None = Other
element_said name (Some number) =
    if bytes_eq name (codes "vertex") then Vertices number
    else if bytes_eq name (codes "face") then Faces number
    else Other

-- what is said by the tokens behind `format`
abbrev pub format_line : List (List ℕ) → HeaderLine
format_line (form ∷ version ∷ []) =
    if bytes_eq form (codes "ascii") && bytes_eq version (codes "1.0") then Format else Other
format_line tokens = Other

-- behind `element`
abbrev pub element_line : List (List ℕ) → HeaderLine
element_line (name ∷ number ∷ []) = element_said name (element_count number)
element_line tokens = Other

-- behind `property list` and two types
abbrev pub list_line : List (List ℕ) → HeaderLine
list_line (name ∷ []) = if is_index_list name then FaceList else Other
list_line tokens = Other

-- behind `property`
abbrev pub property_line : List (List ℕ) → HeaderLine
property_line (kind ∷ name ∷ []) = if is_type kind then Property else Other
property_line (kind ∷ counts ∷ numbers ∷ names) =
    if bytes_eq kind (codes "list") && is_type counts && is_type numbers then list_line names
    else Other
property_line tokens = Other

-- the end of the header, which is a line of one token
abbrev pub end_line : List (List ℕ) → HeaderLine
end_line (word ∷ []) = if bytes_eq word (codes "end_header") then End else Other
end_line tokens = Other

-- what a line of a header says
abbrev pub header_line : List (List ℕ) → HeaderLine
header_line [] = Other
header_line (word ∷ tokens) =
    if bytes_eq word (codes "format") then format_line tokens
    else if bytes_eq word (codes "element") then element_line tokens
    else if bytes_eq word (codes "property") then property_line tokens
    else if bytes_eq word (codes "comment") || bytes_eq word (codes "obj_info") then Comment
    else end_line (word ∷ tokens)
