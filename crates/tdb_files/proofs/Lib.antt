mod Elsewhere
