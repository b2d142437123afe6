mod Escaping
mod TextLemmas
mod TagLemmas
