-- A listed name and what document 01 says of it: "(d) is deprecated; GPL and LGPL names are GNU", and the licence that an imprecise name stands for.
use Prim.Native.String.{String}
use Rattle.std.specs.Prelude.{Bool, true, false}

pub record Listed : Type 0 where
  pub text : String
  pub deprecated : Bool
  pub gnu : Bool

pub record Imprecise : Type 0 where
  pub text : String
  pub licence : String

abbrev pub plain : String → Listed
plain s = record { text = s; deprecated = false; gnu = false }

abbrev pub deprecated : String → Listed
deprecated s = record { text = s; deprecated = true; gnu = false }

abbrev pub gnu : String → Listed
gnu s = record { text = s; deprecated = false; gnu = true }

abbrev pub deprecated_gnu : String → Listed
deprecated_gnu s = record { text = s; deprecated = true; gnu = true }

abbrev pub standing : String → String → Imprecise
standing s t = record { text = s; licence = t }
